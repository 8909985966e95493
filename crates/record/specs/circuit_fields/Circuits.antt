-- The fields of a circuit record, and the bytes of a record with given fields.
use Rattle.std.specs.Prelude.{Bool, List, ◌∷◌, ℕ, ◌+◌, ◌*◌, ◌%◌, eqb, length, get_or, drop}
use Rattle.logic.specs.Rules.{pick, bit}

unfoldable pub layout_of : List ℕ → ℕ
layout_of c = get_or c 1 0

unfoldable pub count_byte : List ℕ → ℕ
count_byte c = get_or c 2 0

abbrev pub gates : List ℕ → List ℕ
gates c = drop 3 c

-- "Its answers carry a 1 in the lowest bit of the circuit's byte 0, and only such circuits may hold three-control gates." (02)
unfoldable pub marked : List ℕ → Bool
marked c = eqb (get_or c 0 0 % 2) 1

abbrev pub controls_of : List ℕ → ℕ
controls_of c = pick (marked c) 3 2

-- the bytes of a circuit: byte 0 with n, m and the mark; the layout; the gate count; the gates
abbrev pub head_byte : ℕ → ℕ → Bool → ℕ
head_byte n m mark = 32 * n + 8 * m + bit mark

unfoldable pub circuit_bytes : ℕ → ℕ → Bool → ℕ → List ℕ → List ℕ
circuit_bytes n m mark p l = head_byte n m mark ∷ p ∷ length l ∷ l
