-- The entries are tested one by one. Invariant: the entries from i on, the first of them above the last one passed, keep the rule exactly
-- where all entries do.
use mathlib.Core.Path.{◌≡◌}
use lib.ListN.{drop}
use Rattle.library.specs.entries.Library.{entries_of, entries_ok}
use Rattle.library.proofs.entries.entries_ok.Given as goal

abbrev pub invariant-loop-i : goal.invariant-loop-i
invariant-loop-i l = entries_ok l.k l.w l.least (drop l.i (entries_of l.library)) ≡ entries_ok l.k l.w 0 (entries_of l.library)
