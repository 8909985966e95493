-- Functions that permute the rows 0 to 15. Such a function turns a pair of rows if it sends the smaller row to the larger value. That is a
-- symmetric relation, so the function turns as many pairs of the rows in any order, and parities add when functions are composed.
use mathlib.Core.Path.{◌≡◌, refl, sym, ap, ◌∙◌}
use mathlib.Core.Bool.{Bool, true, false}
use mathlib.Core.List.{List, [], ◌∷◌, map, map-map}
use Prim.Native.Nat.{ℕ, ◌+◌, ◌%◌, ◌<◌, ◌≤◌, min, max}
use native.Mathlib.Omega.{arith}
use native.Mathlib.Nat.{min_comm, max_comm, min-eq_left, min-eq_right, max-eq_left, max-eq_right, le_of_lt, add-zero}
use borrow.Author.Tests.{lt-ltb, le-ltb, ltb-true, ltb-false}
use lib.Dec.{ltb}
use Rattle.logic.specs.Lists.{all_of, total, numbers_from}
use Rattle.logic.proofs.Chain.{both_left, both_right, both_true}
use Rattle.parity.specs.Parity.{lower, smaller, inversions}
use Rattle.parity.proofs.odd_tables.Pairs.{Relation, Symmetric, pairs, as_pairs, pairs_map, pairs_add, pairs_mod}

-- the rows of four wires
unfoldable pub rows16 : List ℕ
rows16 = numbers_from 0 16

-- f permutes the rows, and its table has the parity of n
pub record Turning (f : ℕ → ℕ) (n : ℕ) : Type 0 where
  pub low : (x : ℕ) → x < 16 → f x < 16
  pub once : (x y : ℕ) → x < 16 → y < 16 → f x ≡ f y → x ≡ y
  pub alike : (D : Relation) → Symmetric D → pairs D (map f rows16) ≡ pairs D rows16
  pub parity : inversions (map f rows16) % 2 ≡ n % 2

-- 1 if f turns the pair: it sends the smaller row to the larger value
unfoldable pub turned : (ℕ → ℕ) → Relation
turned f a b = lower (f (min a b)) (f (max a b))

turned_symmetric : (f : ℕ → ℕ) → Symmetric (turned f)
unfolding turned
turned_symmetric f a b = rw (min_comm a b, max_comm a b)

-- of two different numbers one is below the other
lower_no : (x y : ℕ) → x ≤ y → lower x y ≡ 0
lower_no x y h = rw (le-ltb y x h)

lower_yes : (x y : ℕ) → y < x → lower x y ≡ 1
lower_yes x y h = rw (lt-ltb y x h)

lower_once : (x y : ℕ) → (x ≡ y → ⊥) → lower x y + lower y x ≡ 1
lower_once x y n = cases (ltb y x) refl
  where
    cases : (t : Bool) → ltb y x ≡ t → lower x y + lower y x ≡ 1
    cases true e = let h = ltb-true y x e in rw (lower_yes x y h, lower_no y x (omega arith))
    cases false e = let h = ltb-false y x e in rw (lower_no x y h, lower_yes y x (omega arith))

abbrev low16 : ℕ → Bool
low16 x = ltb x 16

module _ (f : ℕ → ℕ) (n : ℕ) (t : Turning f n) where
  -- f changes the order of two rows exactly if it turns them
  exchanged : (a b : ℕ) → low16 a ≡ true → low16 b ≡ true → (lower (f a) (f b) + lower a b) % 2 ≡ turned f a b % 2
  unfolding turned
  exchanged a b ha hb = cases (ltb b a) refl
    where
      cases : (s : Bool) → ltb b a ≡ s → (lower (f a) (f b) + lower a b) % 2 ≡ turned f a b % 2
      cases true e =
          let h = ltb-true b a e in
          rw (min-eq_right (le_of_lt h), max-eq_left (le_of_lt h))
          (omega (arith, lower_yes a b h, lower_once (f a) (f b) (λ k. omega (arith, t.once a b (ltb-true a 16 ha) (ltb-true b 16 hb) k))))
      cases false e =
          let h = ltb-false b a e in
          rw (min-eq_left h, max-eq_right h) (omega (arith, lower_no a b h))

  -- so the number of pairs that f turns in a list is, modulo 2, the number of inversions after f plus that before
  crossed : (l : List ℕ) → all_of low16 l ≡ true → (inversions (map f l) + inversions l) % 2 ≡ pairs (turned f) l % 2
  crossed l h =
      rw (as_pairs (map f l), as_pairs l, pairs_map lower f l, ← pairs_add (λ a b. lower (f a) (f b)) lower l)
      (pairs_mod low16 (λ a b. lower (f a) (f b) + lower a b) (turned f) l h exchanged)

all_map : (P : ℕ → Bool) (f : ℕ → ℕ) (l : List ℕ) → all_of P l ≡ true → ((x : ℕ) → P x ≡ true → P (f x) ≡ true) → all_of P (map f l) ≡ true
unfolding all_of
all_map P f [] h k = refl
all_map P f (x ∷ xs) h k = both_true (k x (both_left (P x) (all_of P xs) h)) (all_map P f xs (both_right (P x) (all_of P xs) h) k)

rows_low : all_of low16 rows16 ≡ true
unfolding rows16 all_of
rows_low = refl

rows_even : inversions rows16 ≡ 0
unfolding rows16 inversions smaller total
rows_even = refl

-- the identity
pub still : Turning (λ x. x) 0
unfolding rows16
still = record {
  low = λ x h. h;
  once = λ x y hx hy e. e;
  alike = λ D s. refl;
  parity = rw rows_even;
}

-- sums modulo 2
mod_swap : (a x y : ℕ) → x % 2 ≡ y % 2 → (a + x) % 2 ≡ (a + y) % 2
mod_swap a x y h = omega arith

mod_move : (a m n : ℕ) → (a + m) % 2 ≡ n % 2 → a % 2 ≡ (m + n) % 2
mod_move a m n h = omega arith

-- composition: the second function turns as many pairs of the first one's values as of the rows
pub after : (f g : ℕ → ℕ) (m n : ℕ) → Turning f m → Turning g n → Turning (λ x. g (f x)) (m + n)
after f g m n tf tg =
    let low = all_map low16 f rows16 rows_low (λ x h. lt-ltb (f x) 16 (tf.low x (ltb-true x 16 h))) in
    let i = inversions (map g (map f rows16)) in
    let e₁ = mod_swap i (inversions (map f rows16)) m tf.parity in
    let e₂ = crossed g n tg (map f rows16) low in
    let e₃ = tf.alike (turned g) (turned_symmetric g) in
    let e₄ = crossed g n tg rows16 rows_low in
    let e₅ : (inversions (map g rows16) + inversions rows16) % 2 ≡ n % 2 = rw (rows_even, add-zero) tg.parity in
    record {
      low = λ x h. tg.low (f x) (tf.low x h);
      once = λ x y hx hy e. tf.once x y hx hy (tg.once (f x) (f y) (tf.low x hx) (tf.low y hy) e);
      alike = λ D s.
          rw (
            ← map-map g f rows16,
            pairs_map D g (map f rows16),
            tf.alike (λ a b. D (g a) (g b)) (λ a b. s (g a) (g b)),
            ← pairs_map D g rows16,
          )
          (tg.alike D s);
      parity = rw (← map-map g f rows16) (mod_move i m n (sym e₁ ∙ e₂ ∙ ap (λ (k : ℕ). k % 2) e₃ ∙ sym e₄ ∙ e₅));
    }
