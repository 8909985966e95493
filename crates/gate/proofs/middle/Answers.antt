use mathlib.Core.Path.{ap, sym}
use lib.Count.{count_trailing_zeros}
use Rattle.gate.specs.Gates.{middle}
use Rattle.gate.proofs.middle.Goals as goal

pub returns-then-m-eq0-clause-value : goal.returns-then-m-eq0-clause-value
unfolding count_trailing_zeros
returns-then-m-eq0-clause-value c = sym (ap middle c.if-m-eq0.true)
