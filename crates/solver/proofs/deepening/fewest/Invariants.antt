-- The loop rises through the counts of gates. Invariant: nothing good has fewer gates than the count at hand, since the walks before it failed.
use Prim.Native.Nat.{◌≤◌}
use Rattle.problem.specs.Problems.{Problem}
use Rattle.problem.specs.Inner.{Past}
use Rattle.walk.specs.node.States.{Given}
use Rattle.solver.specs.deepening.Deepening.{Counted}
use Rattle.solver.proofs.deepening.fewest.Given as goal

abbrev pub invariant-loop-g : goal.invariant-loop-g
invariant-loop-g l = (P : Problem) → Given P l.setup l.entries → l.setup.task.cost_limit ≤ P.most_cost → l.counts.most ≤ P.most_gates
    → Past P l.setup.task.cost_limit l.counts.from → Counted P l.setup.task.cost_limit l.sums → Past P l.setup.task.cost_limit l.g
