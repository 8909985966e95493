use Prim.Native.Nat.{◌+◌}
use mathlib.Core.Path.{sym}
use native.Mathlib.Omega.{arith}
use lib.Seq.{set_out}
use Rattle.bounds.specs.sums.Sums.{put}
use Rattle.bounds.proofs.sums.put.Goals as goal

pub returns-then-step-sums : goal.returns-then-step-sums
unfolding put
returns-then-step-sums c = cc

pub returns-else-step-sums : goal.returns-else-step-sums
unfolding put
returns-else-step-sums c = sym (set_out c.args.sums.now (c.args.i + c.args.step) 1 (omega arith))
