-- When a parity is odd: as a test, and by the number of inversions.
use mathlib.Core.Path.{◌≡◌, refl}
use mathlib.Core.Logic.{◌↔◌}
use mathlib.Core.Bool.{Bool, true, false, false≢true}
use Prim.Native.Nat.{ℕ, ◌%◌}
use native.Mathlib.Omega.{arith}
use borrow.Author.Tests.{eqb-true, eq-eqb}
use lib.Dec.{eqb}
use Rattle.logic.specs.Rules.{both, pick}
use Rattle.parity.specs.Parity.{Parity, even, odd, neither, is_odd, parity_by}

pub odd_is : (p : Parity) → is_odd p ≡ true → p ≡ odd
odd_is even h = absurd (false≢true h)
odd_is odd h = refl
odd_is neither h = absurd (false≢true h)

pub odd_test : (p q : Bool) → both p q ≡ is_odd (pick p (pick q odd even) neither)
odd_test true true = refl
odd_test true false = refl
odd_test false q = refl

pub odd_parts : (p q : Bool) → pick p (pick q odd even) neither ≡ odd → (p ≡ true) × (q ≡ true)
odd_parts true true h = (refl, refl)
odd_parts true false h = let z : ◌≡◌ {A = ℕ} 0 1 = cc in absurd (omega arith)
odd_parts false q h = let z : ◌≡◌ {A = ℕ} 0 1 = cc in absurd (omega arith)

pub odd_when : (n : ℕ) → (parity_by n ≡ odd) ↔ (n % 2 ≡ 1)
odd_when n = (λ h. eqb-true (n % 2) 1 (odd_parts true (eqb (n % 2) 1) h).1, λ h. rw (eq-eqb (n % 2) 1 h))
