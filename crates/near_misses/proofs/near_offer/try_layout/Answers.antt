-- The test of the code is `within`, so the layout is offered exactly where that holds.
use mathlib.Core.Path.{◌≡◌, refl, sym, ap, ap₂, ◌∙◌}
use Prim.Native.Nat.{ℕ}
use lib.Dec.{leb}
use Rattle.logic.specs.Rules.{both}
use Rattle.problem.specs.order.Choices.{keep}
use Rattle.problem.specs.order.View.{view}
use Rattle.problem.proofs.order.First.{attempt_not}
use Rattle.problem.specs.Problems.{Problem, choice_of, within}
use Rattle.walk.specs.node.States.{list_of, Asks, At}
use Rattle.walk.proofs.node.Nodes.{attempt_good, mine_is}
use Rattle.near_misses.specs.near_offer.Loose.{loosened}
use Rattle.near_misses.proofs.near_offer.Near.{good_is}
use Rattle.near_misses.proofs.near_offer.try_layout.Goals as goal
use Rattle.near_misses.proofs.near_offer.try_layout.Goals.{After-both}

-- what the two tests come to
tested : (c : After-both) (P : Problem) → Asks P c.args.task → At P c.args.s
    → c.both.result ≡ within (loosened c.args.task c.args.k P) c.args.task.cost_limit (choice_of P (list_of c.args.s) c.args.p)
tested c P asks at =
    let cheap = c.both-cheap.ensures ∙ ap (λ (d : ℕ). both (leb c.args.s.cost c.args.task.cost_limit) (leb d c.args.task.depth_limit)) c.latest-depth.ensures in
    c.both.ensures ∙ ap₂ both c.nearly.ensures cheap ∙ good_is P c.args.task asks c.args.k c.args.s at c.args.p

pub returns-then-not-both : goal.returns-then-not-both
returns-then-not-both c = (λ P asks at. sym (attempt_not (within (loosened c.args.task c.args.k P) c.args.task.cost_limit) (view c.args.best) (choice_of P (list_of c.args.s) c.args.p) (sym (tested (goal.at.returns-then-not-both c).After-both P asks at) ∙ c.if-not-both.true)))

pub returns : goal.returns
returns c =
    (λ P asks at.
    let m = mine_is P c.args.task c.args.s asks at c.args.p _ refl c.latest-depth.ensures refl refl refl in
    c.offer.ensures ∙ ap (keep (view c.args.best)) m
    ∙ sym (attempt_good (within (loosened c.args.task c.args.k P) c.args.task.cost_limit) (view c.args.best) (choice_of P (list_of c.args.s) c.args.p) (sym (tested (goal.at.returns c).After-both P asks at) ∙ c.if-not-both.false)))
