-- A layout is in order exactly if the wires that it names are all the data wires: computed for every byte.
use mathlib.Core.Path.{◌≡◌, refl, sym}
use mathlib.Core.Bool.{Bool, true, false, beq}
use mathlib.Core.Logic.{⊎_elim}
use mathlib.Core.List.{[], ◌∷◌}
use Prim.Native.Nat.{ℕ, ◌*◌, ◌/◌, ◌%◌, ◌^◌, ◌<◌}
use borrow.Author.Tests.{ne_eqb}
use lib.Bits.{bit_or}
use lib.Dec.{eqb}
use Rattle.logic.specs.Rules.{both, pick, all_below}
use Rattle.logic.proofs.Below.{below}
use Rattle.table.specs.layouts.Layouts.{Width, layout_ok, layouts_for, plain}

abbrev three : ℕ → ℕ
three p = bit_or (bit_or (1 * 2 ^ (p / 64) % 2 ^ 8) (1 * 2 ^ (p / 16 % 4) % 2 ^ 8)) (1 * 2 ^ (p / 4 % 4) % 2 ^ 8)

abbrev pub named : ℕ → ℕ → Bool
named n p = pick (eqb n 3) (both (eqb (three p) 7) (eqb (p % 4) 0)) (eqb (bit_or (three p) (1 * 2 ^ (p % 4) % 2 ^ 8)) 15)

abbrev agrees : ℕ → ℕ → Bool
agrees n p = beq (named n p) (layout_ok n p)

agrees_three : all_below 256 (agrees 3) ≡ true
unfolding layout_ok
agrees_three = refl

agrees_four : all_below 256 (agrees 4) ≡ true
unfolding layout_ok
agrees_four = refl

beq_true : (a b : Bool) → beq a b ≡ true → a ≡ b
beq_true true true h = refl
beq_true true false h = sym h
beq_true false true h = h
beq_true false false h = refl

pub named_ok : (n p : ℕ) → Width n → p < 256 → named n p ≡ layout_ok n p
named_ok n p h hp =
    ⊎_elim
    (λ (e : n ≡ 3). rw e (beq_true (named 3 p) (layout_ok 3 p) (below 256 (agrees 3) agrees_three p hp)))
    (λ (e : n ≡ 4). rw e (beq_true (named 4 p) (layout_ok 4 p) (below 256 (agrees 4) agrees_four p hp)))
    h

pub four : {n : ℕ} → Width n → (n ≡ 3 → ⊥) → n ≡ 4
four h not_three = ⊎_elim (λ e. absurd (not_three e)) (λ e. e) h

-- with fixed layout only the plain one is allowed
pub fixed : (n free : ℕ) → (free ≡ 1 → ⊥) → layouts_for n free ≡ plain n ∷ []
unfolding layouts_for
fixed n free h = rw (ne_eqb free 1 h)
