use Rattle.std.proofs.Common.{◌∙◌}
use Rattle.problem.proofs.order.Bytewise.{keyed}
use Rattle.problem.proofs.best.comes_first.Goals as goal

pub returns : goal.returns
returns c = c.lt.ensures ∙ keyed c.args.a.now c.args.b.now c.gates.result.now c.gates-2.result.now c.gates.ensures c.gates-2.ensures
