-- The least number at which a test holds: what it says of the numbers before it, and how one more number changes it.
use mathlib.Core.Path.{◌≡◌, refl, sym, ap, ◌∙◌, subst}
use mathlib.Core.Bool.{Bool, true, false, true≢false}
use mathlib.Core.Logic.{◌⊎◌, inl, inr, ⊎_elim}
use Prim.Native.Nat.{ℕ, zero, suc, ◌≤◌, ◌<◌}
use native.Mathlib.Nat.{not-suc-le-zero, le_of_suc-le-suc, eq-or-lt_of_le}
use native.Mathlib.Omega.{arith}
use borrow.Author.Tests.{lt-ltb, le-ltb, leb-true, leb-false}
use lib.Dec.{ltb, leb}
use Rattle.logic.specs.Rules.{pick}
use Rattle.sizes.specs.permutations.Sizes.{least_below}

module _ (f : ℕ → Bool) where
  abbrev NoneBelow : ℕ → Type 0
  NoneBelow n = (j : ℕ) → j < n → f j ≡ false

  -- x is 255 and the test holds nowhere below n, or the first place at which it does
  abbrev First : ℕ → ℕ → Type 0
  First n x = ((x ≡ 255) × NoneBelow n) ⊎ ((x < n) × ((f x ≡ true) × NoneBelow x))

  pub least_first : (n : ℕ) → n ≤ 255 → First n (least_below n f)
  unfolding least_below
  least_first zero h = inl (refl, λ j k. absurd (not-suc-le-zero k))
  least_first (suc n) h = by_rest (least_first n (omega arith))
    where
      next : (t : Bool) → f n ≡ t → NoneBelow n → First (suc n) (pick t n 255)
      next true e none = inr (omega arith, (e, none))
      next false e none = inl (refl, λ j k. ⊎_elim (λ (q : j ≡ n). ap f q ∙ e) (λ (q : j < n). none j q) (eq-or-lt_of_le (le_of_suc-le-suc k)))

      by_rest : First n (least_below n f) → First (suc n) (pick (ltb (least_below n f) 255) (least_below n f) (pick (f n) n 255))
      by_rest (inl p) = rw (le-ltb (least_below n f) 255 (let e = p.0 in omega arith)) (next (f n) refl p.1)
      by_rest (inr p) = rw (lt-ltb (least_below n f) 255 (let e = p.0 in omega arith)) (inr (let e = p.0 in omega arith, p.1))

  module _ (n : ℕ) (h : n ≤ 255) where
    pub least_most : least_below n f ≤ 255
    least_most = ⊎_elim (λ p. let e = p.0 in omega arith) (λ p. let e = p.0 in omega arith) (least_first n h)

    pub least_none : least_below n f ≡ 255 → NoneBelow n
    least_none e = ⊎_elim (λ p. p.1) (λ p. let l = p.0 in absurd (omega arith)) (least_first n h)

    pub least_some : (k : ℕ) → k < 255 → least_below n f ≡ k → (k < n) × ((f k ≡ true) × NoneBelow k)
    least_some k l e =
        ⊎_elim (λ p. let q = p.0 in absurd (omega arith)) (λ p. subst (λ (x : ℕ). (x < n) × ((f x ≡ true) × NoneBelow x)) e p) (least_first n h)

    pub least_is : (k : ℕ) → k < n → f k ≡ true → NoneBelow k → least_below n f ≡ k
    least_is k l t none =
        ⊎_elim (λ p. absurd (true≢false (sym t ∙ p.1 k l))) (λ p. by_place (leb (least_below n f) k) refl p) (least_first n h)
      where
        by_place : (b : Bool) → leb (least_below n f) k ≡ b → (least_below n f < n) × ((f (least_below n f) ≡ true) × NoneBelow (least_below n f))
            → least_below n f ≡ k
        by_place true e p =
            ⊎_elim (λ (q : least_below n f ≡ k). q) (λ (q : least_below n f < k). absurd (true≢false (sym p.1.0 ∙ none (least_below n f) q)))
            (eq-or-lt_of_le (leb-true (least_below n f) k e))
        by_place false e p = absurd (true≢false (sym t ∙ p.1.1 k (leb-false (least_below n f) k e)))

    -- nothing at which it holds is less
    pub least_least : (k : ℕ) → k < n → f k ≡ true → least_below n f ≤ k
    least_least k l t =
        ⊎_elim (λ p. absurd (true≢false (sym t ∙ p.1 k l))) (λ p. by_place (leb (least_below n f) k) refl p) (least_first n h)
      where
        by_place : (b : Bool) → leb (least_below n f) k ≡ b → (least_below n f < n) × ((f (least_below n f) ≡ true) × NoneBelow (least_below n f))
            → least_below n f ≤ k
        by_place true e p = leb-true (least_below n f) k e
        by_place false e p = absurd (true≢false (sym t ∙ p.1.1 k (leb-false (least_below n f) k e)))
