use Rattle.std.proofs.Common.{rules}
use Rattle.logic.proofs.Chains.{made_from_fn}
use Rattle.bloom.specs.hash.Reach.{share_at, shares_of}
use Rattle.bloom.proofs.hash.shares.Goals as goal

pub returns : goal.returns
unfolding shares_of share_at
returns c = made_from_fn _ (share_at c.args.reach.factors c.args.reach.rows c.args.columns) _ (λ i y q r. search rules) _ 5 0 c.from_fn.ensures.items
