-- Gates under another order of the wires: a layout renames wires, and so turns a gate into another.
use Rattle.std.specs.Prelude.{Bool, ℕ, eqb, ltb}
use Rattle.logic.specs.Rules.{both, pick, all_below}
use Rattle.logic.specs.Bit.{bit_of}
use Rattle.gate.specs.Gates.{target_of, mask_of}
use Rattle.table.specs.layouts.Layouts.{wire_of}

-- the wire that layout p has in place of wire w of the plain layout; a wire without an output keeps its number
unfoldable pub wire_at : ℕ → ℕ → ℕ → ℕ
wire_at n p w = pick (ltb w n) (wire_of p w) w

-- wire w is a control of h exactly if the wire that it is renamed to is a control of g
abbrev pub same_control : ℕ → ℕ → ℕ → ℕ → ℕ → Bool
same_control n p g h w = eqb (bit_of w (mask_of h)) (bit_of (wire_at n p w) (mask_of g))

-- gate h mirrors g: h with its target and controls renamed by the layout is g
unfoldable pub mirrors : ℕ → ℕ → ℕ → ℕ → Bool
mirrors n p g h = both (eqb (wire_at n p (target_of h)) (target_of g)) (all_below 5 (same_control n p g h))
