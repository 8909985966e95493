use mathlib.Core.Path.{refl}
use Rattle.solver.specs.deepening.Deepening.{limited_to}
use Rattle.solver.proofs.deepening.limited_to.Goals as goal

pub returns : goal.returns
unfolding limited_to
returns c = refl
