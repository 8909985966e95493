use mathlib.Core.Path.{refl, ap, ◌∙◌}
use mathlib.Core.List.{List, map}
use Prim.Native.Nat.{ℕ}
use native.Mathlib.Omega.{arith}
use lib.Seq.{take_all}
use Rattle.table.specs.layouts.Layouts.{layouts_for}
use Rattle.problem.specs.order.Choices.{Choice, attempt, improve}
use Rattle.problem.specs.order.View.{view}
use Rattle.problem.specs.Problems.{choice_of, within}
use Rattle.walk.specs.node.States.{list_of}
use Rattle.walk.proofs.node.Nodes.{layouts_turn}
use Rattle.near_misses.specs.near_offer.Loose.{loosened}
use Rattle.near_misses.proofs.near_offer.Near.{here_is}
use Rattle.near_misses.proofs.near_offer.consider.Goals as goal

pub loop-i-init : goal.loop-i-init
unfolding improve
loop-i-init c = λ P asks at. refl

pub loop-i-preserved : goal.loop-i-preserved
loop-i-preserved c =
    let h = c.loop-i-test.true in
    let n = c.layout_count-count.ensures in
    λ P asks at.
    layouts_turn (within (loosened c.args.task c.args.k P) c.args.task.cost_limit) (choice_of P (list_of c.args.s)) (layouts_for c.args.task.outputs c.args.task.free) c.loop-i.i
    (view c.args.best) (view c.loop-i.b) (view c.try_layout-b.result) (omega arith) (c.loop-i.invariant P asks at)
    (c.try_layout-b.ensures P asks at
    ∙ ap (λ (q : ℕ). attempt (within (loosened c.args.task c.args.k P) c.args.task.cost_limit) (view c.loop-i.b) (choice_of P (list_of c.args.s) q)) c.layout_at-p.ensures)

pub returns : goal.returns
returns c =
    let h = c.loop-i-test.false in
    let n = c.layout_count-count.ensures in
    let ls = layouts_for c.args.task.outputs c.args.task.free in (λ P asks at.
    c.loop-i.invariant P asks at
    ∙ ap (λ (l : List ℕ). improve (within (loosened c.args.task c.args.k P) c.args.task.cost_limit) (view c.args.best) (map (choice_of P (list_of c.args.s)) l)) (take_all c.loop-i.i ls (omega arith))
    ∙ ap (λ (l : List Choice). improve (within (loosened c.args.task c.args.k P) c.args.task.cost_limit) (view c.args.best) l) (here_is P c.args.task asks c.args.k (list_of c.args.s)))
