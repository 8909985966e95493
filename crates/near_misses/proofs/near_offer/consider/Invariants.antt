-- Invariant: after i layouts the incumbent is the first of the one before the loop and the list with each of them.
use mathlib.Core.Path.{◌≡◌}
use mathlib.Core.List.{map}
use Prim.Native.Nat.{◌≤◌}
use lib.ListN.{take}
use Rattle.table.specs.layouts.Layouts.{layouts_for}
use Rattle.problem.specs.order.Choices.{improve}
use Rattle.problem.specs.order.View.{view}
use Rattle.problem.specs.Problems.{Problem, choice_of, within}
use Rattle.walk.specs.node.States.{list_of, Asks, At}
use Rattle.near_misses.specs.near_offer.Loose.{loosened}
use Rattle.near_misses.proofs.near_offer.consider.Given as goal

abbrev pub invariant-loop-i : goal.invariant-loop-i
invariant-loop-i l = (P : Problem) → Asks P l.task → At P l.s
    → view l.b ≡ improve (within (loosened l.task l.k P) l.task.cost_limit) (view l.initial.b) (map (choice_of P (list_of l.s)) (take l.i (layouts_for l.task.outputs l.task.free)))
