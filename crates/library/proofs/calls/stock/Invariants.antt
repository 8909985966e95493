-- The table is filled entry by entry. Invariant: its first places hold the first entries of the library.
use Rattle.std.proofs.Common.{◌≡◌, length, take}
use Rattle.library.specs.entries.Library.{entries_of}
use Rattle.library.proofs.calls.stock.Given as goal

abbrev pub invariant-loop-i : goal.invariant-loop-i
invariant-loop-i l = (length l.all ≡ 75) × (take l.i l.all ≡ take l.i (entries_of l.library))
