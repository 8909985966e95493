-- The difference of two costs as an integer: its sign, and that an i32 holds it for any two costs.
use mathlib.Core.Path.{◌≡◌, sym, ap, ap₂, ◌∙◌, subst}
use mathlib.Core.Bool.{Bool, true, false}
use mathlib.Core.Logic.{◌⊎◌, inl, inr, ⊎_elim}
use mathlib.Core.Path.{refl}
use Prim.Native.Nat.{ℕ, zero, suc, ◌+◌, ◌-◌, ◌≤◌, ◌<◌}
use native.Mathlib.Omega.{arith}
use borrow.Author.Tests.{ltb-true, ltb-false}
use lib.Dec.{ltb}
use lib.IntN.{ℤ, pos, neg_ℤ, ◌+ℤ◌, ◌-ℤ◌, +ℤ-neg_ℤ_cancel, neg_ℤ-+ℤ, neg_ℤ-neg_ℤ, +ℤ_comm}
use lib.Signed.{mag}
use mir.Syntax.{w32}
use mir.Val.{SFits, to_z, of_z}
use mir.ValLaws.{to_z_pos, to_z-of_z}
use Rattle.sensitivity.specs.alike.Alike.{cost_difference}

pub at_most : (a b : ℕ) → (a ≤ b) ⊎ (b ≤ a)
at_most a b = by_test (ltb a b) refl
  where
    by_test : (t : Bool) → ltb a b ≡ t → (a ≤ b) ⊎ (b ≤ a)
    by_test true h = let k = ltb-true a b h in inl (omega arith)
    by_test false h = inr (ltb-false a b h)

-- no less: the difference is how much more
pub no_less : (a b : ℕ) → a ≤ b → cost_difference a b ≡ pos (b - a)
no_less a b h =
    let e : b ≡ b - a + a = omega arith in
    ap (λ (x : ℕ). pos x -ℤ pos a) e ∙ +ℤ-neg_ℤ_cancel (pos (b - a)) (pos a)

turned : (m k : ℤ) → m -ℤ k ≡ neg_ℤ (k -ℤ m)
turned m k = sym (neg_ℤ-+ℤ k (neg_ℤ m) ∙ ap (λ (x : ℤ). neg_ℤ k +ℤ x) (neg_ℤ-neg_ℤ m) ∙ +ℤ_comm (neg_ℤ k) m)

-- no more: it is how much less, with a sign
pub no_more : (a b : ℕ) → b ≤ a → cost_difference a b ≡ neg_ℤ (pos (a - b))
no_more a b h = turned (pos b) (pos a) ∙ ap neg_ℤ (no_less b a h)

pub no_change : (a : ℕ) → cost_difference a a ≡ pos 0
no_change a = let e : a - a ≡ 0 = omega arith in no_less a a (omega arith) ∙ ap pos e

less_fits : (n : ℕ) → n < 65536 → mag (neg_ℤ (pos n)) < 2147483648
less_fits zero h = omega arith
less_fits (suc n) h = omega arith

pub difference_fits : (a b : ℕ) → a < 65536 → b < 65536 → SFits w32 (cost_difference a b)
difference_fits a b h k =
    record {
      sfits = ⊎_elim
          (λ (l : a ≤ b). subst (λ (z : ℤ). mag z < 2147483648) (sym (no_less a b l)) (omega arith))
          (λ (l : b ≤ a). subst (λ (z : ℤ). mag z < 2147483648) (sym (no_more a b l)) (less_fits (a - b) (omega arith)))
          (at_most a b);
    }

-- the machine reads both costs, and their difference, back from bits
module _ (a b : ℕ) (h : a < 65536) (k : b < 65536) where
  read_back : to_z w32 b -ℤ to_z w32 a ≡ cost_difference a b
  read_back =
      let x : a < 2147483648 = omega arith in
      let y : b < 2147483648 = omega arith in
      ap₂ ◌-ℤ◌ (to_z_pos w32 b y) (to_z_pos w32 a x)

  pub fits_back : SFits w32 (to_z w32 b -ℤ to_z w32 a)
  fits_back = subst (λ (z : ℤ). SFits w32 z) (sym read_back) (difference_fits a b h k)

  pub told_back : to_z w32 (of_z w32 (to_z w32 b -ℤ to_z w32 a)) ≡ cost_difference a b
  told_back = to_z-of_z w32 (to_z w32 b -ℤ to_z w32 a) fits_back ∙ read_back
