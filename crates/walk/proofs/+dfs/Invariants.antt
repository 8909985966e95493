-- The recursion. Invariant: after so many entries the incumbent is the first of the one before the loop and all lists that go on by one of their
-- gates. A gate is pruned by its tests, or entered by the recursive call; the gates that remain fall.
use mathlib.Core.Path.{◌≡◌}
use Prim.Native.Nat.{◌-◌, ◌≤◌}
use Rattle.problem.specs.order.Choices.{improve}
use Rattle.problem.specs.order.View.{view}
use Rattle.problem.specs.Problems.{Problem, here, within}
use Rattle.problem.specs.pruned.Pruned.{branches}
use Rattle.walk.specs.node.States.{list_of, needless, Given, At, Exact}
use Rattle.walk.proofs.+dfs.Given as goal

abbrev pub invariant-loop-entry : goal.invariant-loop-entry
invariant-loop-entry l = (1 ≤ l.most) × ((P : Problem) → Given P l.setup l.entries → At P l.s
    → Exact P l.task.cost_limit (list_of l.s) l.remaining l.sums → view l.b ≡ improve (within P l.task.cost_limit) (view l.initial.b) (branches needless (here P) P.gates (list_of l.s) (l.remaining - 1) l.entry-index))

abbrev pub decreases-dfs : goal.decreases-dfs
decreases-dfs l = l.tree.remaining
