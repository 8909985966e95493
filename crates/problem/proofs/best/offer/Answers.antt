use Rattle.std.proofs.Common.{◌∙◌, sym, rules}
use Rattle.problem.specs.order.View.{view}
use Rattle.problem.specs.order.Choices.{keep}
use Rattle.problem.proofs.order.Bytewise.{offered_before, offered_after}
use Rattle.problem.proofs.best.offer.Goals as goal

-- nothing was found before
pub returns-in_default : goal.returns-in_default
unfolding view keep
returns-in_default c = search rules

pub returns-then-comes_first : goal.returns-then-comes_first
returns-then-comes_first c = rw c.in-Some.is (offered_before c.in-Some.held c.args.mine (sym c.comes_first.ensures ∙ c.if-comes_first.true))

pub returns-else-comes_first : goal.returns-else-comes_first
returns-else-comes_first c = rw c.in-Some.is (offered_after c.in-Some.held c.args.mine (sym c.comes_first.ensures ∙ c.if-comes_first.false))
