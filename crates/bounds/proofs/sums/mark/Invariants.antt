-- The invariant: the places below the one at hand are closed under one more gate.
use lib.ListN.{length}
use Rattle.problem.specs.Entries.{entry_prices}
use Rattle.bounds.proofs.sums.Sums.{MarkedTo}
use Rattle.bounds.proofs.sums.mark.Given as goal

abbrev pub invariant-loop-place : goal.invariant-loop-place
invariant-loop-place l = MarkedTo (entry_prices l.entries) l.limit (length l.initial.sums) l.place l.sums
