use mathlib.Core.Option.{some}
use mathlib.Core.Logic.{◌⊎◌, inl, inr, ⊎_elim}
use Prim.Native.Nat.{ℕ, ◌<◌}
use native.Mathlib.Decide.{dec_lt}
use native.Mathlib.Omega.{arith}
use Rattle.std.specs.Prelude.{min}
use Rattle.problem.specs.order.View.{viewed}
use Rattle.problem.proofs.order.First.{attempt_not}
use Rattle.problem.proofs.order.Left.{dearer_left}
use Rattle.problem.specs.Problems.{within}
use Rattle.problem.proofs.Listed.{dear}
use Rattle.walk.proofs.offer.cap.Goals as goal

-- what is above the lesser of two numbers is above one of them
over : (x y a : ℕ) → min x y < a → (y < a) ⊎ (x < a)
over x y a h = by_second (dec_lt y a)
  where
    by_second : Dec (y < a) → (y < a) ⊎ (x < a)
    by_second (yes k) = inl k
    by_second (no k) = inr (omega arith)

-- it costs more than the incumbent, or more than the limit
pub returns-in-Some : goal.returns-in-Some
unfolding viewed
returns-in-Some g c = λ P a h.
    let d = g.H.Incumbent.stands_for c.in-Some.held in
    let e = c.cost.ensures in
    let above : min c.args.limit d.cost < a.cost = omega arith in
    rw c.in-Some.is (⊎_elim
    (λ (k : d.cost < a.cost). dearer_left (within P c.args.limit) a d k)
    (λ (k : c.args.limit < a.cost). attempt_not (within P c.args.limit) (some d) a (dear P c.args.limit a k))
    (over c.args.limit d.cost a.cost above))

pub returns-in-None : goal.returns-in-None
returns-in-None g c = λ P a h. attempt_not (within P c.args.limit) (viewed g.H.Incumbent.stands_for c.args.best) a (dear P c.args.limit a h)
