-- Bytes are moved down one by one. Invariant: the first k of those from `from` on are pasted over the list at `to`.
use mathlib.Core.Path.{◌≡◌}
use lib.ListN.{length, drop}
use lib.Seq.{paste}
use Rattle.peephole.proofs.listing.close_gap.Given as goal

abbrev pub invariant-loop-k : goal.invariant-loop-k
invariant-loop-k l = (length l.list ≡ length l.initial.list) × (l.list ≡ paste l.initial.list l.to (drop l.from l.initial.list) l.k)
