-- An answer made from a code: which case it is, and what each case says of the code.
use mathlib.Core.Path.{◌≡◌}
use Prim.Native.Nat.{ℕ}
use native.Mathlib.Decide.{ℕ_discrete}
use native.Mathlib.Omega.{arith}
use borrow.Author.Tests.{eq-eqb, ne_eqb}
use Rattle.logic.specs.Answers.{refused, answered, answer_of}

module _ {A : Type 0} (code : ℕ) (value : A) where
  pub refused_by : (code ≡ 0 → ⊥) → answer_of code value ≡ refused code
  refused_by h = rw (ne_eqb code 0 h)

  pub answered_with : code ≡ 0 → answer_of code value ≡ answered value
  answered_with h = rw (eq-eqb code 0 h)

  pub answered_is : (v : A) → answer_of code value ≡ answered v → (code ≡ 0) × (v ≡ value)
  answered_is v h = by_code (ℕ_discrete code 0)
    where
      by_code : Dec (code ≡ 0) → (code ≡ 0) × (v ≡ value)
      by_code (yes e) = let w = rw (eq-eqb code 0 e) at h in (e, cc)
      by_code (no n) = let w = rw (ne_eqb code 0 n) at h in let z : ◌≡◌ {A = ℕ} 0 1 = cc in absurd (omega arith)

  pub refused_is : (n : ℕ) → answer_of code value ≡ refused n → code ≡ n
  refused_is n h = by_code (ℕ_discrete code 0)
    where
      by_code : Dec (code ≡ 0) → code ≡ n
      by_code (yes e) = let w = rw (eq-eqb code 0 e) at h in let z : ◌≡◌ {A = ℕ} 0 1 = cc in absurd (omega arith)
      by_code (no d) = let w = rw (ne_eqb code 0 d) at h in cc
