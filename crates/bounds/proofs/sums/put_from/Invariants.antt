-- The invariant: marking for the entries that are left, in the sums so far, gives what marking for all of them in the first sums does.
use Rattle.std.proofs.Common.{◌≡◌, length, drop}
use Rattle.problem.specs.Entries.{entry_prices}
use Rattle.bounds.specs.sums.Sums.{put_from}
use Rattle.bounds.proofs.sums.put_from.Given as goal

abbrev pub invariant-loop-entry : goal.invariant-loop-entry
invariant-loop-entry l =
    (length l.sums ≡ length l.initial.sums)
    × (put_from l.i (drop l.entry-index (entry_prices l.entries)) l.sums ≡ put_from l.i (entry_prices l.entries) l.initial.sums)
