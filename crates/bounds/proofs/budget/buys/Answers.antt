use mathlib.Core.Path.{◌∙◌, ap}
use Prim.Native.Nat.{min, ◌/◌}
use borrow.Author.Tests.{eq-eqb, ne_eqb}
use Rattle.bounds.specs.budget.Afford.{buys}
use Rattle.bounds.proofs.budget.buys.Goals as goal

pub returns-then-low-eq0-clause-value : goal.returns-then-low-eq0-clause-value
unfolding buys
returns-then-low-eq0-clause-value c = rw (eq-eqb c.args.low 0 c.if-low-eq0.true)

pub returns-clause-value : goal.returns-clause-value
unfolding buys
returns-clause-value c = let bought = c.quotient.ensures ∙ ap (λ a. a / c.args.low) c.above.ensures in rw (ne_eqb c.args.low 0 c.if-low-eq0.false) (c.lesser.ensures ∙ ap (min c.args.remaining) bought)
