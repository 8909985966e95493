use Rattle.near_misses.proofs.misses.Kept.{lefts_one}
use Rattle.near_misses.proofs.fewest.with_one.Goals as goal

pub returns-clause-value : goal.returns-clause-value
returns-clause-value c xs e = rw (c.min.ensures, c.min-2.ensures, c.min-3.ensures) (lefts_one c.args.m xs c.args.least e)
