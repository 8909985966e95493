use mathlib.Core.Path.{sym}
use native.Mathlib.Omega.{arith}
use Rattle.problem.specs.order.View.{view}
use Rattle.walk.proofs.node.Pruning.{here_lost}
use Rattle.walk.proofs.offer.consider_met.Goals as goal

pub returns-else-missing-eq0 : goal.returns-else-missing-eq0
returns-else-missing-eq0 c =
    let h = c.if-missing-eq0.false in
    let e = c.requires.missing_value in (λ P asks at. sym (here_lost P c.args.task c.args.s asks at c.args.task.cost_limit (view c.args.best) (omega arith)))
