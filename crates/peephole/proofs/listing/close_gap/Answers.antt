use mathlib.Core.Path.{ap, ◌∙◌}
use mathlib.Core.List.{List}
use Prim.Native.Nat.{ℕ, ◌+◌}
use native.Mathlib.Omega.{arith}
use lib.ListN.{set, get_or, length-set}
use Rattle.peephole.proofs.windows.Buffers.{moved_more}
use Rattle.peephole.proofs.listing.close_gap.Goals as goal

pub loop-k-preserved : goal.loop-k-preserved
loop-k-preserved c = (
  simp length-set c.loop-k.invariant.0,
  ap (λ (x : List ℕ). set x (c.args.to + c.loop-k.k) (get_or x (c.args.from + c.loop-k.k) 0)) c.loop-k.invariant.1
      ∙ moved_more c.args.list.now c.args.to c.args.from c.loop-k.k c.requires.0 (omega arith),
)
