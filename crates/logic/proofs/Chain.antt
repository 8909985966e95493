-- Tests joined by `both`, `either` and `implies`, by their parts; and lists of rules, by the code that they give.
use mathlib.Core.Path.{◌≡◌, refl, sym}
use mathlib.Core.Logic.{◌⊎◌, inl, inr}
use mathlib.Core.Bool.{Bool, true, false, false≢true}
use Prim.Native.Nat.{ℕ, ◌<◌}
use native.Mathlib.Decide.{ℕ_discrete}
use native.Mathlib.Omega.{arith}
use borrow.Author.Tests.{eq-eqb, ne_eqb}
use lib.Dec.{eqb}
use Rattle.logic.specs.Rules.{both, either, implies, rule, and_then}

pub both_left : (a b : Bool) → both a b ≡ true → a ≡ true
both_left true b h = refl
both_left false b h = h

pub both_right : (a b : Bool) → both a b ≡ true → b ≡ true
both_right true b h = h
both_right false b h = absurd (false≢true h)

pub both_true : {a b : Bool} → a ≡ true → b ≡ true → both a b ≡ true
both_true ha hb = rw (ha, hb)

pub both_parts : (a b : Bool) → both a b ≡ true → (a ≡ true) × (b ≡ true)
both_parts a b h = (both_left a b h, both_right a b h)

pub either_none : (a : Bool) → a ≡ either a false
either_none true = refl
either_none false = refl

pub either_cases : (a b : Bool) → either a b ≡ true → (a ≡ true) ⊎ (b ≡ true)
either_cases true b h = inl refl
either_cases false b h = inr h

pub either_neither : (a b : Bool) → either a b ≡ false → (a ≡ false) × (b ≡ false)
either_neither true b h = absurd (false≢true (sym h))
either_neither false b h = (refl, h)

pub either_first : (a b : Bool) → a ≡ true → either a b ≡ true
either_first a b e = rw e

pub either_second : (a b : Bool) → b ≡ true → either a b ≡ true
either_second true b e = refl
either_second false b e = e

pub both_second : (a b : Bool) → b ≡ false → both a b ≡ false
both_second true b h = h
both_second false b h = refl

-- a test that cannot be true is false
pub not_so : (a : Bool) → (a ≡ true → ⊥) → a ≡ false
not_so true h = absurd (h refl)
not_so false h = refl

pub implied : (a b : Bool) → implies a b ≡ true → a ≡ true → b ≡ true
implied true b h e = h
implied false b h e = absurd (false≢true e)

pub rule_kept : (kept : Bool) (code rest : ℕ) → 0 < code → rule kept code rest ≡ 0 → (kept ≡ true) × (rest ≡ 0)
rule_kept true code rest p h = (refl, h)
rule_kept false code rest p h = absurd (omega arith)

-- a list of rules gives no number that is not the code of one of its rules
pub rule_never : (n : ℕ) (kept : Bool) (code rest : ℕ) → (code ≡ n → ⊥) → (rest ≡ n → ⊥) → rule kept code rest ≡ n → ⊥
rule_never n true code rest c r h = r h
rule_never n false code rest c r h = c h

pub and_then_never : (n code rest : ℕ) → (code ≡ n → ⊥) → (rest ≡ n → ⊥) → and_then code rest ≡ n → ⊥
and_then_never n code rest c r h = rule_never n (eqb code 0) code rest c r h

pub and_then_zero : (code rest : ℕ) → and_then code rest ≡ 0 → (code ≡ 0) × (rest ≡ 0)
and_then_zero code rest h = by_code (ℕ_discrete code 0)
  where
    by_code : Dec (code ≡ 0) → (code ≡ 0) × (rest ≡ 0)
    by_code (yes e) = (e, rw (eq-eqb code 0 e) at h)
    by_code (no n) = absurd (n (rw (ne_eqb code 0 n) at h))
