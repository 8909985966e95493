-- Clearing is linear: x loses b exactly where it has the highest one of b.
use mathlib.Core.Path.{◌≡◌, refl, sym, ap, ap₂, ◌∙◌}
use mathlib.Core.Logic.{⊎_elim}
use mathlib.Core.List.{List, [], ◌∷◌}
use Prim.Native.Nat.{ℕ, zero, suc, ◌*◌, ◌+◌, ◌/◌, ◌%◌, ◌^◌, ◌≤◌, ◌<◌}
use native.Mathlib.Nat.{le_refl, lt_of_not-le, eq-zero-or-pos}
use native.Mathlib.Decide.{ℕ_discrete}
use native.Mathlib.Numerals.{one-add}
use native.Mathlib.Omega.{arith}
use lib.Bits.{bit_xor, differ, xor_step, xor_shr, xor_self, xor_zero_r}
use lib.Pow.{shr-shr, shr_mono}
use Rattle.logic.specs.Lists.{along}
use Rattle.logic.specs.Bit.{bit_of}
use Rattle.logic.proofs.Bits.{bit_xor_law}
use Rattle.bounds.specs.span.Span.{clear, reduced}
use Rattle.logic.proofs.Xor.{Linear, xor_assoc, xor_swap, xor_both}

-- the place of the highest one
highest : (k b : ℕ) → b ≤ k → 0 < b → (h : ℕ) × (b / 2 ^ h ≡ 1)
highest zero b l p = absurd (omega arith)
highest (suc k) b l p = by_one (ℕ_discrete b 1) (highest k (b / 2) (omega arith))
  where
    by_one : Dec (b ≡ 1) → (0 < b / 2 → (h : ℕ) × (b / 2 / 2 ^ h ≡ 1)) → (h : ℕ) × (b / 2 ^ h ≡ 1)
    by_one (yes e) f = (0, omega arith)
    by_one (no n) f =
        let t = f (omega arith) in
        (suc t.0, ap (λ (i : ℕ). b / 2 ^ i) (sym (one-add t.0)) ∙ sym (shr-shr b 1 t.0) ∙ t.1)

-- a number that ends in the digit r, with its last digit turned
last_turned : (a r : ℕ) → a % 2 ≡ r → bit_xor a 1 ≡ a / 2 * 2 + differ r 1
last_turned a r e = xor_step a 1 ∙ rw (xor_zero_r (a / 2), e)

module _ (b h : ℕ) (one : b / 2 ^ h ≡ 1) where
  turned : (x r : ℕ) → bit_of h x ≡ r → bit_xor x b / 2 ^ h ≡ x / 2 ^ h / 2 * 2 + differ r 1
  turned x r e = xor_shr x b h ∙ ap (bit_xor (x / 2 ^ h)) one ∙ last_turned (x / 2 ^ h) r e

  lost : (x : ℕ) → bit_of h x ≡ 1 → clear b x ≡ bit_xor x b
  unfolding clear
  lost x e = let l : bit_xor x b < x = lt_of_not-le (λ m. omega (arith, shr_mono h m, turned x 1 e)) in omega arith

  kept : (x : ℕ) → bit_of h x ≡ 0 → clear b x ≡ x
  unfolding clear
  kept x e = let l : x < bit_xor x b = lt_of_not-le (λ m. omega (arith, shr_mono h m, turned x 0 e)) in omega arith

  linear_at : Linear (clear b)
  linear_at x y = by_bits (ℕ_discrete (bit_of h x) 1) (ℕ_discrete (bit_of h y) 1)
    where
      by_bits : Dec (bit_of h x ≡ 1) → Dec (bit_of h y ≡ 1) → clear b (bit_xor x y) ≡ bit_xor (clear b x) (clear b y)
      by_bits (yes p) (yes q) = kept (bit_xor x y) (bit_xor_law h x y ∙ ap₂ bit_xor p q) ∙ sym (ap₂ bit_xor (lost x p) (lost y q) ∙ xor_both x y b)
      by_bits (yes p) (no q) =
          let q : bit_of h y ≡ 0 = omega arith in
          lost (bit_xor x y) (bit_xor_law h x y ∙ ap₂ bit_xor p q) ∙ sym (ap₂ bit_xor (lost x p) (kept y q) ∙ xor_swap x b y)
      by_bits (no p) (yes q) =
          let p : bit_of h x ≡ 0 = omega arith in
          lost (bit_xor x y) (bit_xor_law h x y ∙ ap₂ bit_xor p q) ∙ sym (ap₂ bit_xor (kept x p) (lost y q) ∙ sym (xor_assoc x y b))
      by_bits (no p) (no q) =
          let p : bit_of h x ≡ 0 = omega arith in
          let q : bit_of h y ≡ 0 = omega arith in
          kept (bit_xor x y) (bit_xor_law h x y ∙ ap₂ bit_xor p q) ∙ sym (ap₂ bit_xor (kept x p) (kept y q))

pub clear_none : (x : ℕ) → clear 0 x ≡ x
unfolding clear
clear_none x = rw (xor_zero_r x) (omega arith)

pub clear_linear : (b : ℕ) → Linear (clear b)
clear_linear b = ⊎_elim none some (eq-zero-or-pos b)
  where
    none : b ≡ 0 → Linear (clear b)
    none e x y = rw (e, clear_none (bit_xor x y), clear_none x, clear_none y)

    some : 0 < b → Linear (clear b)
    some l = let t = highest b b (le_refl b) l in linear_at b t.0 t.1

pub clear_self : (b : ℕ) → clear b b ≡ 0
unfolding clear
clear_self b = rw (xor_self b) (omega arith)

pub reduced_linear : (basis : List ℕ) → Linear (reduced basis)
unfolding along
reduced_linear [] x y = refl
reduced_linear (b ∷ basis) x y = ap (reduced basis) (clear_linear b x y) ∙ reduced_linear basis (clear b x) (clear b y)
