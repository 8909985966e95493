-- Sums over all pairs of a list. The sum of a symmetric relation does not change when the list is sorted.
use mathlib.Core.Path.{◌≡◌, refl, ◌∙◌}
use mathlib.Core.Bool.{Bool, true, false}
use mathlib.Core.List.{List, [], ◌∷◌, map}
use Prim.Native.Nat.{ℕ, ◌+◌, ◌%◌}
use native.Mathlib.Omega.{arith}
use lib.Dec.{leb}
use Rattle.logic.specs.Rules.{pick}
use Rattle.logic.specs.Lists.{all_of, total}
use Rattle.logic.proofs.Chain.{both_left, both_right}
use Rattle.parity.specs.Parity.{lower, smaller, inversions}

-- a number for each ordered pair
abbrev pub Relation : Type 0
Relation = ℕ → ℕ → ℕ

-- the sum of D over all pairs
unfoldable pub pairs : Relation → List ℕ → ℕ
pairs D [] = 0
pairs D (x ∷ xs) = total (D x) xs + pairs D xs

abbrev pub Symmetric : Relation → Type 0
Symmetric D = (a b : ℕ) → D a b ≡ D b a

-- the number of inversions is such a sum
pub as_pairs : (l : List ℕ) → inversions l ≡ pairs lower l
unfolding inversions pairs smaller
as_pairs [] = refl
as_pairs (x ∷ xs) = rw (as_pairs xs)

total_map : (h f : ℕ → ℕ) (l : List ℕ) → total h (map f l) ≡ total (λ x. h (f x)) l
unfolding total
total_map h f [] = refl
total_map h f (x ∷ xs) = rw (total_map h f xs)

pub pairs_map : (D : Relation) (f : ℕ → ℕ) (l : List ℕ) → pairs D (map f l) ≡ pairs (λ a b. D (f a) (f b)) l
unfolding pairs
pairs_map D f [] = refl
pairs_map D f (x ∷ xs) = rw (total_map (D (f x)) f xs, pairs_map D f xs)

total_add : (h k : ℕ → ℕ) (l : List ℕ) → total (λ x. h x + k x) l ≡ total h l + total k l
unfolding total
total_add h k [] = refl
total_add h k (x ∷ xs) = omega (arith, total_add h k xs)

pub pairs_add : (D E : Relation) (l : List ℕ) → pairs (λ a b. D a b + E a b) l ≡ pairs D l + pairs E l
unfolding pairs
pairs_add D E [] = refl
pairs_add D E (x ∷ xs) = omega (arith, total_add (D x) (E x) xs, pairs_add D E xs)

-- relations that agree modulo 2 on all pairs of elements have sums that agree modulo 2
module _ (P : ℕ → Bool) where
  total_mod : (h k : ℕ → ℕ) (l : List ℕ) → all_of P l ≡ true → ((a : ℕ) → P a ≡ true → h a % 2 ≡ k a % 2) → total h l % 2 ≡ total k l % 2
  unfolding total all_of
  total_mod h k [] q e = refl
  total_mod h k (x ∷ xs) q e = omega (arith, e x (both_left (P x) (all_of P xs) q), total_mod h k xs (both_right (P x) (all_of P xs) q) e)

  pub pairs_mod : (D E : Relation) (l : List ℕ) → all_of P l ≡ true → ((a b : ℕ) → P a ≡ true → P b ≡ true → D a b % 2 ≡ E a b % 2)
      → pairs D l % 2 ≡ pairs E l % 2
  unfolding pairs all_of
  pairs_mod D E [] q e = refl
  pairs_mod D E (x ∷ xs) q e =
      let qx = both_left (P x) (all_of P xs) q in
      let qs = both_right (P x) (all_of P xs) q in
      omega (arith, total_mod (D x) (E x) xs qs (λ b qb. e x b qx qb), pairs_mod D E xs qs e)

-- insertion, and the sorted list
abbrev insert : ℕ → List ℕ → List ℕ
insert x [] = x ∷ []
insert x (y ∷ l) = pick (leb x y) (x ∷ y ∷ l) (y ∷ insert x l)

abbrev pub sorted : List ℕ → List ℕ
sorted [] = []
sorted (x ∷ l) = insert x (sorted l)

total_insert : (h : ℕ → ℕ) (x : ℕ) (l : List ℕ) → total h (insert x l) ≡ h x + total h l
unfolding total
total_insert h x [] = refl
total_insert h x (y ∷ l) = place (total_insert h x l) (leb x y)
  where
    place : total h (insert x l) ≡ h x + total h l → (t : Bool) → total h (pick t (x ∷ y ∷ l) (y ∷ insert x l)) ≡ h x + (h y + total h l)
    place e true = refl
    place e false = omega arith

total_sorted : (h : ℕ → ℕ) (l : List ℕ) → total h (sorted l) ≡ total h l
unfolding total
total_sorted h [] = refl
total_sorted h (x ∷ l) = total_insert h x (sorted l) ∙ (rw (total_sorted h l))

module _ (D : Relation) (s : Symmetric D) where
  pairs_insert : (x : ℕ) (l : List ℕ) → pairs D (insert x l) ≡ total (D x) l + pairs D l
  unfolding pairs total
  pairs_insert x [] = refl
  pairs_insert x (y ∷ l) = place (pairs_insert x l) (leb x y)
    where
      place : pairs D (insert x l) ≡ total (D x) l + pairs D l
          → (t : Bool)
          → pairs D (pick t (x ∷ y ∷ l) (y ∷ insert x l)) ≡ D x y + total (D x) l + (total (D y) l + pairs D l)
      place e true = refl
      place e false = omega (arith, total_insert (D y) x l, s x y)

  pub pairs_sorted : (l : List ℕ) → pairs D (sorted l) ≡ pairs D l
  unfolding pairs
  pairs_sorted [] = refl
  pairs_sorted (x ∷ l) = omega (arith, pairs_insert x (sorted l), total_sorted (D x) l, pairs_sorted l)
