use mathlib.Core.Path.{sym, ◌∙◌}
use Prim.Native.Nat.{◌<◌}
use native.Mathlib.Omega.{arith}
use borrow.Author.Tests.{ltb-true}
use Rattle.problem.specs.order.View.{viewed}
use Rattle.problem.proofs.Skips.{cut_limit, cut_cost, cut_gates}
use Rattle.walk.proofs.offer.dear.Goals as goal

pub returns-then-limit-paid : goal.returns-then-limit-paid
returns-then-limit-paid g c =
    λ t P l k hc hl.
    let h = c.if-limit-paid.true in
    cut_limit P c.args.limit l k (viewed g.H.Incumbent.stands_for c.args.best) (omega arith)

pub returns-then-cost-paid : goal.returns-then-cost-paid
unfolding viewed
returns-then-cost-paid g c =
    λ t P l k hc hl.
    let n = ltb-true _ _ t in
    let longer = c.len.ensures in
    rw c.in-Some.is (cut_gates P c.args.limit l k (g.H.Incumbent.stands_for c.in-Some.held)
    (sym c.cost.ensures ∙ sym c.from-cost.ensures ∙ c.if-cost-paid.true ∙ hc) (omega arith))

pub returns : goal.returns
unfolding viewed
returns g c =
    λ t P l k hc hl.
    let n : c.from-cost.result < c.args.paid = ltb-true _ _ t in
    let less = c.cost.ensures in
    rw c.in-Some.is (cut_cost P c.args.limit l k (g.H.Incumbent.stands_for c.in-Some.held) (omega arith))
