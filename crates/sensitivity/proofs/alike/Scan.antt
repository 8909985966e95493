-- A number for which a test holds, where one below a bound has it; and whether a test holds of some number below 3 or 4.
use mathlib.Core.Path.{◌≡◌, refl, ap}
use mathlib.Core.Bool.{Bool, true, false, false≢true}
use mathlib.Core.Logic.{⊎_elim}
use Prim.Native.Nat.{ℕ, zero, suc, ◌<◌}
use native.Mathlib.Omega.{arith}
use Rattle.logic.specs.Rules.{both, either, pick, some_below}
use Rattle.logic.proofs.Chain.{either_cases}

module _ (f : ℕ → Bool) where
  pub some_is : (n : ℕ) → some_below n f ≡ true → (k : ℕ) × ((k < n) × (f k ≡ true))
  some_is zero h = absurd (false≢true h)
  some_is (suc n) h =
      ⊎_elim (λ (e : f n ≡ true). (n, (omega arith, e)))
      (λ (e : some_below n f ≡ true). let r = some_is n e in (r.0, (omega (arith, r.1.0), r.1.1)))
      (either_cases (f n) (some_below n f) h)

last : (t : Bool) → t ≡ either t false
last true = refl
last false = refl

-- three tests, or four
pub three_or_four : (four : Bool) (f : ℕ → Bool)
    → either (both four (f 3)) (either (f 2) (either (f 1) (f 0))) ≡ some_below (pick four 4 3) f
three_or_four true f = ap (λ t. either (f 3) (either (f 2) (either (f 1) t))) (last (f 0))
three_or_four false f = ap (λ t. either (f 2) (either (f 1) t)) (last (f 0))
