-- Final layouts, document 01's placings: one byte whose four 2-bit fields, from the highest, hold the wires of output bits 0, 1, 2, 3.
use Rattle.std.specs.Prelude.{◌≡◌, Bool, not, ◌⊎◌, List, [], ◌∷◌, ℕ, ◌-◌, ◌*◌, ◌/◌, ◌%◌, ◌^◌, ltb, eqb}
use Rattle.logic.specs.Rules.{both, implies, pick, all_below}
use Rattle.logic.specs.Lists.{keep_only, numbers_from}

-- "n data wires (3 or 4)"
abbrev pub Width : ℕ → Type 0
Width n = (n ≡ 3) ⊎ (n ≡ 4)

-- the wire of output bit j
abbrev pub wire_of : ℕ → ℕ → ℕ
wire_of p j = p / 2 ^ (6 - 2 * j) % 4

-- output bit j is on a data wire, and no earlier output is on the same one
abbrev pub own_wire : ℕ → ℕ → ℕ → Bool
own_wire n p j = both (ltb (wire_of p j) n) (all_below j (λ i. not (eqb (wire_of p i) (wire_of p j))))

-- "with n = 3 the last is 0. The wires named are data wires, each once."
unfoldable pub layout_ok : ℕ → ℕ → Bool
layout_ok n p = both (all_below n (own_wire n p)) (implies (eqb n 3) (eqb (wire_of p 3) 0))

-- "The plain placing puts output bit j on wire j: 0x18 for n = 3, 0x1B for n = 4."
abbrev pub plain : ℕ → ℕ
plain n = pick (eqb n 3) 0x18 0x1B

-- "Allowed is every placing that keeps the rules for a circuit's byte 1; with fixed placing, only the plain one."
unfoldable pub allowed : ℕ → ℕ → ℕ → Bool
allowed n free p = pick (eqb free 1) (layout_ok n p) (eqb p (plain n))

-- the allowed layouts in rising byte order
unfoldable pub layouts_for : ℕ → ℕ → List ℕ
layouts_for n free = pick (eqb free 1) (keep_only (layout_ok n) (numbers_from 0 256)) (plain n ∷ [])
