-- The gates as published in source 003's Table 3, bit by bit, with one line for each kind of gate. The three-control gate of change
-- request 8 follows the same pattern.
use Rattle.std.specs.Prelude.{ℕ, ◌*◌, eqb}
use Rattle.std.specs.Int.Bits.{bit_xor}
use Rattle.logic.specs.Rules.{pick}
use Rattle.logic.specs.Bit.{bit_of}
use Rattle.gate.specs.declared.Kind.{Kind}
use Rattle.gate.specs.declared.Kind.TheVariants.{Not, Cnot, Toffoli, Cccnot}
use Rattle.gate.specs.Gates.{target_of, gate_of}

-- what the target is exclusive-ored with: 1, the control, the product of two controls or of three
abbrev pub added : Kind → ℕ → ℕ
added Not v = 1
added (Cnot a) v = bit_of a v
added (Toffoli a b) v = bit_of a v * bit_of b v
added (Cccnot a b c) v = bit_of a v * bit_of b v * bit_of c v

-- the bit of wire w after gate b on the value v: the formula for the target; every other wire keeps its bit
abbrev pub published : ℕ → ℕ → ℕ → ℕ
published b v w = pick (eqb w (target_of b)) (bit_xor (bit_of w v) (added (gate_of b).kind v)) (bit_of w v)
