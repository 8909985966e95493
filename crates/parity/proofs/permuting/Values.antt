-- The values of the rows, for chains and loops over the rows.
use Rattle.std.proofs.Common.{◌≡◌, refl, sym, cond, ltb, count_by, arith}
use mathlib.Core.Bool.{Bool, true, false}
use mathlib.Core.List.{List, [], ◌∷◌, map}
use Prim.Native.Nat.{ℕ, ◌+◌, ◌<◌, ◌≤◌}
use native.Mathlib.Numerals.{add-one}
use lib.ListN.{length, drop, get_or, drop_of_length-le}
use lib.Seq.{drop-cons}
use Rattle.std.proofs.lemmas.List.Recursion.{is_count_by}
use Rattle.logic.specs.Rules.{both, pick}
use Rattle.logic.specs.Lists.{all_of, total}
use Rattle.table.specs.Rows.{value_of}
use Rattle.parity.specs.Parity.{differs, distinct, smaller, inversions}

-- a test of the values is a test of the rows
pub all_map : (v : ℕ → ℕ) (f : ℕ → Bool) (l : List ℕ) → all_of (λ row. f (v row)) l ≡ all_of f (map v l)
unfolding all_of
all_map v f [] = refl
all_map v f (row ∷ l) = rw (all_map v f l)

-- the smaller values are as many as the rows that have one
pub smaller_is : (x : ℕ) (l : List ℕ) → count_by (λ row. ltb (value_of row) x) l ≡ smaller x (map value_of l)
unfolding smaller total
smaller_is x l = sym (is_count_by (λ l. smaller x (map value_of l)) (λ row. ltb (value_of row) x) refl (λ row l. one_more (ltb (value_of row) x) _) l)
  where
    one_more : (t : Bool) (n : ℕ) → pick t 1 0 + n ≡ cond t (1 + n) n
    one_more true n = refl
    one_more false n = omega arith

-- the values of the rows from i on: what is left to a loop, one row later, and at the end
abbrev pub from : List ℕ → ℕ → List ℕ
from l i = map value_of (drop i l)

module _ (l : List ℕ) (i : ℕ) where
  more : i < length l → from l i ≡ value_of (get_or l i 0) ∷ from l (i + 1)
  more h = rw (add-one, drop-cons l i 0 h)

  done : length l ≤ i → from l i ≡ []
  done h = rw (drop_of_length-le l h)

  pub distinct_turn : (t : Bool) → i < length l → all_of (differs (value_of (get_or l i 0))) (from l (i + 1)) ≡ t
      → distinct (from l i) ≡ both t (distinct (from l (i + 1)))
  unfolding distinct
  distinct_turn t h e = rw (more h, e)

  pub distinct_done : length l ≤ i → distinct (from l i) ≡ true
  unfolding distinct
  distinct_done h = rw (done h)

  pub inversions_more : i < length l → inversions (from l i) ≡ smaller (value_of (get_or l i 0)) (from l (i + 1)) + inversions (from l (i + 1))
  unfolding inversions
  inversions_more h = rw (more h)

  pub inversions_done : length l ≤ i → inversions (from l i) ≡ 0
  unfolding inversions
  inversions_done h = rw (done h)
