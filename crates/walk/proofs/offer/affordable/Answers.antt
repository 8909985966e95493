-- A list that costs more than the cap, or has more gates than the cost left buys, does not change the incumbent.
use mathlib.Core.Path.{sym, ◌∙◌}
use native.Mathlib.Omega.{arith}
use borrow.Author.Tests.{ltb-true}
use Rattle.problem.specs.order.View.{viewed}
use Rattle.walk.proofs.node.Pruning.{enough_spent, enough_heavy, enough_gates}
use Rattle.walk.proofs.offer.affordable.Goals as goal

pub returns-then-most-cost-clause-enough : goal.returns-then-most-cost-clause-enough
returns-then-most-cost-clause-enough g c = λ P bounded at. enough_spent P c.args.task.cost_limit c.args.least c.args.s bounded at c.cap-most.result c.args.remaining (viewed g.H.Incumbent.stands_for c.args.best) (c.cap-most.ensures P) c.if-most-cost.true

pub returns-then-unaffordable-clause-enough : goal.returns-then-unaffordable-clause-enough
returns-then-unaffordable-clause-enough g c =
    let i = c.if-most-cost.false in
    let h = ltb-true _ _ (sym c.unaffordable.ensures ∙ c.if-unaffordable.true) in λ P bounded at. enough_heavy P c.args.task.cost_limit c.args.least c.args.s bounded at c.cap-most.result c.args.remaining (viewed g.H.Incumbent.stands_for c.args.best) (c.cap-most.ensures P) (omega arith) h

pub returns-clause-enough : goal.returns-clause-enough
returns-clause-enough g c =
    let i = c.if-most-cost.false in λ P bounded at. enough_gates P c.args.task.cost_limit c.args.least c.args.s bounded at c.cap-most.result c.args.remaining (viewed g.H.Incumbent.stands_for c.args.best) (c.cap-most.ensures P)
    c.buys.result (omega arith) c.buys.ensures.value
