-- The recursion. Invariant: after so many entries the incumbent is the first of the one before the loop and all lists that go on by one of their
-- gates. A gate is pruned by its tests, or entered by the recursive call; the gates that remain fall.
use mathlib.Core.Path.{◌≡◌}
use Prim.Native.Nat.{◌-◌, ◌≤◌}
use Rattle.problem.specs.order.Choices.{improve}
use Rattle.problem.specs.order.View.{view}
use Rattle.problem.specs.Problems.{Problem, here, within}
use Rattle.problem.specs.pruned.Pruned.{branches}
use Rattle.walk.specs.node.States.{list_of, needless, Posed, At}
use Rattle.near_misses.specs.near_offer.Loose.{loosened}
use Rattle.near_misses.proofs.near_walk.+dfs.Given as goal

abbrev pub invariant-loop-entry : goal.invariant-loop-entry
invariant-loop-entry l = (1 ≤ l.remaining) × ((P : Problem) → Posed P l.task l.entries → At P l.s
    → view l.b ≡ improve (within (loosened l.task l.k P) l.task.cost_limit) (view l.initial.b) (branches needless (here (loosened l.task l.k P)) P.gates (list_of l.s) (l.remaining - 1) l.entry-index))

abbrev pub decreases-dfs : goal.decreases-dfs
decreases-dfs l = l.remaining
