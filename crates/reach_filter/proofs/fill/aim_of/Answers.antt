use Rattle.std.proofs.Common.{rules}
use Rattle.logic.proofs.Chains.{made_from_fn}
use Rattle.reach_filter.specs.fill.Sieve.{aim_at, aim_of}
use Rattle.reach_filter.proofs.fill.aim_of.Goals as goal

pub returns : goal.returns
unfolding aim_of
returns c = made_from_fn _ (aim_at c.args.t c.args.n) _ (λ i y q r. search rules) _ 5 0 c.from_fn.ensures.items
