-- The entries are looked at one by one. Invariant: the first entry of the gate among those from i on is the first of all.
use mathlib.Core.Path.{◌≡◌}
use lib.ListN.{drop}
use Rattle.library.specs.entries.Library.{entries_of, entry_for}
use Rattle.library.proofs.entry_measures.entry_for.Given as goal

abbrev pub invariant-loop-i : goal.invariant-loop-i
invariant-loop-i l = entry_for (drop l.i (entries_of l.library)) l.b ≡ entry_for (entries_of l.library) l.b
