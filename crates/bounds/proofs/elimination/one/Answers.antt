use borrow.Author.Tests.{eq-eqb, ne_eqb}
use Rattle.bounds.specs.span.Span.{one}
use Rattle.bounds.proofs.elimination.one.Goals as goal

pub returns-then-y-eq0-clause-value : goal.returns-then-y-eq0-clause-value
unfolding one
returns-then-y-eq0-clause-value c = rw (eq-eqb _ _ c.if-y-eq0.true)

pub returns-else-y-eq0-clause-value : goal.returns-else-y-eq0-clause-value
unfolding one
returns-else-y-eq0-clause-value c = rw (ne_eqb _ _ c.if-y-eq0.false)
