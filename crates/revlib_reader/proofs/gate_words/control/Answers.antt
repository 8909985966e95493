use Prim.Native.Nat.{◌≤◌}
use native.Mathlib.Omega.{arith}
use lib.Pow.{pow_mono}
use Rattle.logic.proofs.Bits.{shifted_one}
use Rattle.revlib_reader.proofs.gate_words.control.Goals as goal

pub returns-clause-upper_bound : goal.returns-clause-upper_bound
returns-clause-upper_bound c =
    let h = c.wire_of.ensures.upper_bound in
    let at_most : c.wire_of.result ≤ 5 = omega arith in
    let e = shifted_one c.wire_of.result (omega arith) in rw e (pow_mono at_most)
