-- How the table of sizes is filled: permutations by their places, masks of unused values, and one sweep over the cells. No public contract
-- cites this.
use Rattle.std.specs.Prelude.{◌≡◌, Bool, not, List, [], ◌∷◌, map, ℕ, zero, suc, ◌+◌, ◌*◌, ◌/◌, ◌%◌, ◌^◌, ◌<◌, ltb, eqb, length, get_or}
use Rattle.std.specs.Int.Bits.{bit_xor}
use Rattle.std.specs.Int.Count.{ones}
use Rattle.logic.specs.Rules.{both, pick}
use Rattle.logic.specs.Bit.{bit_of}
use Rattle.logic.specs.Lists.{all_of, keep_only}
use Rattle.gate.specs.Gates.{step}
use Rattle.parity.specs.Parity.{differs}
use Rattle.sizes.specs.permutations.Orders.{eight, permutations, factorial}
use Rattle.sizes.specs.permutations.Sizes.{made_by, least_below}

-- a mask of unused values: bit x is 1 where the value x is not used yet
abbrev pub in_mask : ℕ → ℕ → Bool
in_mask m x = eqb (bit_of x m) 1

-- the unused values, rising
unfoldable pub members : ℕ → List ℕ
members m = keep_only (in_mask m) eight

-- the order at place r, in dictionary order, of the n unused values
unfoldable pub arranged : ℕ → ℕ → ℕ → List ℕ
arranged zero m r = []
arranged (suc n) m r =
    get_or (members m) (r / factorial n) 0 ∷ arranged n (bit_xor m (2 ^ get_or (members m) (r / factorial n) 0)) (r % factorial n)

-- the place of an order among all orders of the unused values: m % 2 ^ x has a 1 for each of them that is less than x
unfoldable pub placed : ℕ → List ℕ → ℕ
placed m [] = 0
placed m (x ∷ xs) = ones (m % 2 ^ x) * factorial (length xs) + placed (bit_xor m (2 ^ x)) xs

-- the neighbor by gate g: the place of the permutation that g makes of the one at place r
unfoldable pub neighbor_of : ℕ → ℕ → ℕ
neighbor_of g r = placed 255 (map (step g) (arranged 8 255 r))

-- the permutation at a place
abbrev pub permutation_at : ℕ → List ℕ
permutation_at r = get_or permutations r []

-- no neighbor of the permutation at place r has a cell that holds k
unfoldable pub apart : List ℕ → List ℕ → ℕ → ℕ → Bool
apart gates cells r k = all_of (λ (g : ℕ). differs k (get_or cells (neighbor_of g r) 0)) gates

-- the cell at place r after the sweep for k + 1 gates: an empty cell (255) takes k + 1 where a neighbor holds k; any other stays
unfoldable pub grown : List ℕ → List ℕ → ℕ → ℕ → ℕ
grown gates cells r k = pick (both (eqb (get_or cells r 0) 255) (not (apart gates cells r k))) (k + 1) (get_or cells r 0)

-- each cell holds its least count where that is below n, and 255 where it is not
abbrev pub Level : ℕ → List ℕ → Type 0
Level n cells = (r : ℕ) → r < 40320 → get_or cells r 0 ≡ least_below n (made_by (permutation_at r))

-- in the middle of a sweep, with the cells before place r done: these hold the least counts below n + 1, the others those below n
abbrev pub Swept : ℕ → ℕ → List ℕ → Type 0
Swept n r cells = (s : ℕ) → s < 40320 → get_or cells s 0 ≡ least_below (pick (ltb s r) (suc n) n) (made_by (permutation_at s))
