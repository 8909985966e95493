-- Counting the numbers below a bound that pass a test: when all pass, when none does, and how counts compare.
use mathlib.Core.Path.{◌≡◌, refl, sym, ap, ◌∙◌}
use mathlib.Core.Logic.{◌⊎◌, ⊎_elim}
use mathlib.Core.Bool.{Bool, true, false, false≢true}
use Prim.Native.Nat.{ℕ, zero, suc, ◌+◌, ◌≤◌, ◌<◌}
use native.Mathlib.Nat.{not-suc-le-zero, le_of_suc-le-suc, eq-or-lt_of_le}
use native.Mathlib.Omega.{arith}
use Rattle.logic.specs.Rules.{bit, all_below, some_below, count_below}
use Rattle.logic.proofs.Chain.{both_true, either_neither, either_first, either_second}

pub same_truth : (a b : Bool) → (a ≡ true → b ≡ true) → (b ≡ true → a ≡ true) → a ≡ b
same_truth true true h k = refl
same_truth true false h k = absurd (false≢true (h refl))
same_truth false true h k = absurd (false≢true (k refl))
same_truth false false h k = refl

pub bit_le : (b : Bool) → bit b ≤ 1
bit_le true = omega arith
bit_le false = omega arith

module _ (f : ℕ → Bool) where
  pub all_below_law : (n : ℕ) → ((k : ℕ) → k < n → f k ≡ true) → all_below n f ≡ true
  all_below_law zero h = refl
  all_below_law (suc n) h = both_true (h n (omega arith)) (all_below_law n (λ k l. h k (omega arith)))

  pub some_at : (n k : ℕ) → k < n → f k ≡ true → some_below n f ≡ true
  some_at zero k l h = absurd (not-suc-le-zero l)
  some_at (suc n) k l h =
      ⊎_elim (λ (e : k ≡ n). either_first (f n) (some_below n f) (sym (ap f e) ∙ h))
      (λ (s : k < n). either_second (f n) (some_below n f) (some_at n k s h))
      (eq-or-lt_of_le (le_of_suc-le-suc l))

  pub not_some : (n : ℕ) → some_below n f ≡ false → (k : ℕ) → k < n → f k ≡ false
  not_some zero h k l = absurd (not-suc-le-zero l)
  not_some (suc n) h k l =
      let e = either_neither (f n) (some_below n f) h in
      ⊎_elim (λ (s : k ≡ n). ap f s ∙ e.0) (λ (s : k < n). not_some n e.1 k s) (eq-or-lt_of_le (le_of_suc-le-suc l))

  pub some_none : (n : ℕ) → ((k : ℕ) → k < n → f k ≡ false) → some_below n f ≡ false
  some_none zero h = refl
  some_none (suc n) h = rw (h n (omega arith)) (some_none n (λ k l. h k (omega arith)))

  pub count_none : (n : ℕ) → ((k : ℕ) → k < n → f k ≡ false) → count_below n f ≡ 0
  count_none zero h = refl
  count_none (suc n) h = rw (h n (omega arith)) (omega (arith, count_none n (λ k l. h k (omega arith))))

  pub count_le : (n : ℕ) → count_below n f ≤ n
  count_le zero = omega arith
  count_le (suc n) = omega (arith, bit_le (f n), count_le n)

-- if one of g and h holds wherever f does, the counts of g and h add up to at least that of f
module _ (f g h : ℕ → Bool) where
  part : (a b c : Bool) → (a ≡ true → (b ≡ true) ⊎ (c ≡ true)) → bit a ≤ bit b + bit c
  part false b c i = omega arith
  part true b c i = ⊎_elim (λ e. rw e (omega arith)) (λ e. rw e (omega arith)) (i refl)

  pub count_split : (n : ℕ) → ((k : ℕ) → k < n → f k ≡ true → (g k ≡ true) ⊎ (h k ≡ true))
      → count_below n f ≤ count_below n g + count_below n h
  count_split zero i = omega arith
  count_split (suc n) i = omega (arith, part (f n) (g n) (h n) (i n (omega arith)), count_split n (λ k l. i k (omega arith)))

pub count_more : (f g : ℕ → Bool) (n : ℕ) → ((k : ℕ) → k < n → f k ≡ true → g k ≡ true) → count_below n f ≤ count_below n g
count_more f g zero i = omega arith
count_more f g (suc n) i = omega (arith, more (f n) (g n) (i n (omega arith)), count_more f g n (λ k l. i k (omega arith)))
  where
    more : (a b : Bool) → (a ≡ true → b ≡ true) → bit a ≤ bit b
    more false b i = omega arith
    more true b i = rw (i refl) (omega arith)
