-- A Bloom filter of states. The hash of a state is a sum of one share for each wire, on the rows that the filter looks at; so a state
-- without one or two of its wires, a projection, has a hash too.
use Rattle.std.specs.Prelude.{◌≡◌, Bool, true, List, map, ℕ, zero, suc, ◌+◌, ◌*◌, ◌/◌, ◌%◌, ◌^◌, eqb, leb, get_or}
use Rattle.std.specs.Int.Bits.{bit_and, bit_xor}
use Rattle.logic.specs.Rules.{pick, some_below}
use Rattle.logic.specs.Lists.{numbers_from}
use Rattle.bloom.specs.declared.hash.Reach.{Reach}
use Rattle.bloom.specs.bits.Places.{key_of, lit_at}

-- the sum of f below n
abbrev pub sum_below : ℕ → (ℕ → ℕ) → ℕ
sum_below zero f = 0
sum_below (suc n) f = f n + sum_below n f

-- f with 0 at a
abbrev pub without : ℕ → (ℕ → ℕ) → ℕ → ℕ
without a f w = pick (eqb w a) 0 (f w)

-- the share of a column in the hash, by its wire's factor; that of a column of zeros is 0
unfoldable pub share_of : ℕ → ℕ → ℕ
share_of f c = bit_xor (c * f) (c * f / 2 ^ 23) % 4294967296 * 2654435761 % 4294967296

-- the share of wire w
unfoldable pub share_at : List ℕ → ℕ → List ℕ → ℕ → ℕ
share_at fs rows cs w = share_of (get_or fs w 0) (bit_and (get_or cs w 0) rows)

-- the shares of the five wires
unfoldable pub shares_of : Reach → List ℕ → List ℕ
shares_of r cs = map (share_at r.factors r.rows cs) (numbers_from 0 5)

-- the hash of a state without the wires a and b; a number that is no wire leaves none out
unfoldable pub part_of : List ℕ → ℕ → ℕ → ℕ
part_of ss a b = sum_below 5 (without a (without b (λ w. get_or ss w 0)))

-- the state without the wires a and b is in the filter
abbrev pub held : List ℕ → ℕ → List ℕ → ℕ → ℕ → Bool
held bits size ss a b = lit_at bits (key_of size (part_of ss a b))

-- a state is in the filter: whole, without any one wire, and without any two
abbrev pub Seen : List ℕ → Reach → List ℕ → Type 0
Seen bits r cs = (a b : ℕ) → held bits r.size (shares_of r cs) a b ≡ true

-- a state is in the filter, except perhaps for its projections without wire t
abbrev pub SeenBut : ℕ → List ℕ → Reach → List ℕ → Type 0
SeenBut t bits r cs = (a b : ℕ) → (a ≡ t → ⊥) → (b ≡ t → ⊥) → held bits r.size (shares_of r cs) a b ≡ true

-- the projections without wire t are in the filter
abbrev pub SeenWithout : ℕ → List ℕ → Reach → List ℕ → Type 0
SeenWithout t bits r cs = (b : ℕ) → held bits r.size (shares_of r cs) t b ≡ true

-- wire w is open: as far as the filter says, a gate on w with at most `left` gates after it may begin a way to finish; ss are the shares of
-- the state before it
unfoldable pub open_on : List ℕ → Reach → List ℕ → ℕ → ℕ → Bool
open_on bits r ss left w =
    pick (leb left r.radius) (held bits r.size ss w w)
    (pick (leb left (r.radius + 1)) (some_below 5 (held bits r.size ss w)) true)
