-- Gates, as document 01 defines them under 'Wires and gates': the fields of a gate byte, which bytes are lawful, what a gate does to a
-- value of the wires, and its kind.
use Rattle.std.specs.Prelude.{Bool, List, ℕ, zero, suc, ◌-◌, ◌/◌, ◌%◌, ◌^◌, ltb, leb, eqb}
use Rattle.std.specs.Int.Bits.{bit_and, bit_xor}
use Rattle.std.specs.Int.Count.{ones, count_trailing_zeros, count_leading_zeros}
use Rattle.logic.specs.Rules.{both, pick}
use Rattle.logic.specs.Lists.{keep_only, numbers_from}
use Rattle.logic.specs.Bit.{bit_of}
use Rattle.gate.specs.declared.Gate.{Gate}
use Rattle.gate.specs.declared.Kind.{Kind}
use Rattle.gate.specs.declared.Kind.TheVariants.{Not, Cnot, Toffoli, Cccnot}

-- "target wire in 3 bits, then a 5-bit control mask in which bit i means wire i"
abbrev pub target_of : ℕ → ℕ
target_of b = b / 32

abbrev pub mask_of : ℕ → ℕ
mask_of b = b % 32

-- "the target is below W, each control is below W, the target is no control, and the mask has at most two ones": here at most k ones,
-- where k is 2 or, where "Three controls are then lawful" (02), 3
unfoldable pub lawful : ℕ → ℕ → ℕ → Bool
lawful k w b =
    both (ltb (target_of b) w)
    (both (ltb (mask_of b) (2 ^ w))
    (both (eqb (bit_of (target_of b) (mask_of b)) 0)
    (leb (ones (mask_of b)) k)))

-- every control of the mask m is 1 in the value v
abbrev pub fires : ℕ → ℕ → Bool
fires m v = eqb (bit_and m v) m

-- "The target bit flips exactly when all controls are 1."
unfoldable pub step : ℕ → ℕ → ℕ
step b v = pick (fires (mask_of b) v) (bit_xor v (2 ^ target_of b)) v

-- the control wires of a mask of at most three: the lowest, the highest and, between them, the lowest of the mask without its lowest
abbrev pub lowest : ℕ → ℕ
lowest m = count_trailing_zeros 8 m

abbrev pub middle : ℕ → ℕ
middle m = lowest (bit_and m (m - 1))

abbrev pub highest : ℕ → ℕ
highest m = 7 - count_leading_zeros 8 m

-- "No control is a NOT, one a CNOT, two a Toffoli", and three a CCCNOT: the kind for a number of controls and their mask
abbrev pub kind_for : ℕ → ℕ → Kind
kind_for zero m = Not
kind_for (suc zero) m = Cnot (lowest m)
kind_for (suc (suc zero)) m = Toffoli (lowest m) (highest m)
kind_for (suc (suc (suc n))) m = Cccnot (lowest m) (middle m) (highest m)

-- the gate that a byte encodes
unfoldable pub gate_of : ℕ → Gate
gate_of b = record { target = target_of b; kind = kind_for (ones (mask_of b)) (mask_of b) }

-- the gates of at most k controls on w wires: "they stand in rising byte order"
unfoldable pub gates_for : ℕ → ℕ → List ℕ
gates_for k w = keep_only (lawful k w) (numbers_from 0 256)
