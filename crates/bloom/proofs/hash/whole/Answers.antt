use native.Mathlib.Omega.{arith}
use Rattle.bloom.proofs.hash.Sums.{part_whole}
use Rattle.bloom.proofs.hash.whole.Goals as goal

pub returns : goal.returns
returns c = omega (arith, part_whole c.args.shares)
