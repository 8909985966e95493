use native.Mathlib.Omega.{arith}
use Rattle.bounds.specs.span.Span.{clear}
use Rattle.bounds.proofs.elimination.clear.Goals as goal

pub returns-then-y-x : goal.returns-then-y-x
unfolding clear
returns-then-y-x c = omega arith

pub returns-else-y-x : goal.returns-else-y-x
unfolding clear
returns-else-y-x c = omega arith
