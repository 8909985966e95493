use Prim.Native.Nat.{◌+◌}
use native.Mathlib.Omega.{arith}
use Rattle.logic.proofs.Rest.{part}
use Rattle.parity.proofs.permuting.Values.{inversions_more, inversions_done}
use Rattle.parity.proofs.inverting.inversion_parity.Goals as goal

pub loop-i-preserved : goal.loop-i-preserved
loop-i-preserved c =
    let e = rw (part c.args.rows.now (c.loop-i.i + 1)) at c.smaller.ensures.value in
    let h = inversions_more c.args.rows.now c.loop-i.i (omega arith) in
    (omega arith, omega arith)

pub returns : goal.returns
returns c = omega (arith, inversions_done c.args.rows.now c.loop-i.i (omega arith))
