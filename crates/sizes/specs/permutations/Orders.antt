-- All orders of some values, in dictionary order, and the place of each.
use Rattle.std.specs.Prelude.{◌≡◌, true, ℕ, zero, suc, ◌+◌, ◌*◌, length}
use mathlib.Core.List.{List, [], ◌∷◌, map, flat_map}
use Rattle.logic.specs.Lists.{keep_only, numbers_from, Among}
use Rattle.parity.specs.Parity.{differs, distinct}
use Rattle.table.specs.Rows.{row_of}

-- the values other than x
abbrev pub without : ℕ → List ℕ → List ℕ
without x vs = keep_only (differs x) vs

-- every order of n values: first those that begin with the first value, then those that begin with the second, and so on
unfoldable pub orders : ℕ → List ℕ → List (List ℕ)
orders zero vs = [] ∷ []
orders (suc n) vs = flat_map (λ (x : ℕ). map (λ (o : List ℕ). x ∷ o) (orders n (without x vs))) vs

-- the values of three wires, rising
abbrev pub eight : List ℕ
eight = numbers_from 0 8

-- "All three-wire permutations", each as its eight values, "in dictionary order"
unfoldable pub permutations : List (List ℕ)
permutations = orders 8 eight

-- v is the values vs in some order
pub record Arranges (vs v : List ℕ) : Type 0 where
  pub same_length : length v ≡ length vs
  pub once : distinct v ≡ true
  pub among : Among vs v

unfoldable pub factorial : ℕ → ℕ
factorial zero = 1
factorial (suc n) = suc n * factorial n

-- the place of an order among all orders of the values: the orders with a smaller first value come before it, as many for each such value
-- as the rest has orders, and so do those with the same first value and an earlier rest
unfoldable pub rank_among : List ℕ → List ℕ → ℕ
rank_among vs [] = 0
rank_among vs (x ∷ xs) = row_of x vs * factorial (length xs) + rank_among (without x vs) xs

-- "a permutation's place"
abbrev pub rank_of : List ℕ → ℕ
rank_of v = rank_among eight v
