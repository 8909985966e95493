use mathlib.Core.Path.{refl}
use Rattle.bounds.specs.budget.Heavy.{heavy}
use Rattle.bounds.proofs.budget.heavy.Goals as goal

pub returns : goal.returns
unfolding heavy
returns c = refl
