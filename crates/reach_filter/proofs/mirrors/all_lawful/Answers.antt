use Rattle.std.proofs.Common.{sym, ◌∙◌, ◌+◌}
use Rattle.gate.specs.Gates.{lawful}
use Rattle.logic.proofs.Fold.{all_at}
use Rattle.reach_filter.proofs.mirrors.all_lawful.Goals as goal

pub returns : goal.returns
returns c = λ e i h. all_at (lawful 3 (c.args.n + 1)) c.args.gates.now i 0 (sym c.all_lawful.ensures ∙ e) h
