use mathlib.Core.Path.{refl}
use native.Mathlib.Omega.{arith}
use Rattle.logic.specs.Lists.{along, total}
use Rattle.logic.proofs.Members.{among_nil}
use Rattle.walk.proofs.root.Goals as goal

pub returns-clause-at : goal.returns-clause-at
unfolding along total
returns-clause-at c = λ P n. record { roomy = omega arith; kept = among_nil; columned = c.start_columns.ensures; timed = refl; paid = refl; needing = n; marking = c.start.ensures }
