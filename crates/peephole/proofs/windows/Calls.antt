-- What the call answers and leaves, from what its parts do.
use mathlib.Core.Path.{◌≡◌, sym, ap, ◌∙◌}
use mathlib.Core.List.{List, ◌++◌}
use Prim.Native.Nat.{ℕ, ◌-◌, ◌≤◌}
use native.Mathlib.Omega.{arith}
use borrow.Author.Tests.{ne_eqb}
use lib.ListN.{length, take, replicate}
use lib.Seq.{length-take-le}
use Rattle.logic.specs.Answers.{refused, answered}
use Rattle.record.specs.Answers.{number}
use Rattle.record.specs.declared.refusal.Refusal.{Refusal}
use Rattle.record.proofs.Refusals.{number_pos}
use Rattle.peephole.specs.declared.windows.Prices.{Prices}
use Rattle.peephole.specs.windows.Windows.{rewritten}
use Rattle.peephole.specs.windows.Listings.{rewrite_code, rewrite_of, list_left}

module _ (n k : ℕ) (p : Prices) (l : List ℕ) where
  pub refusing : (rewrite_code n k l ≡ 0 → ⊥) → (refused (rewrite_code n k l) ≡ rewrite_of n k p l) × (l ≡ list_left n k p l)
  unfolding rewrite_of list_left
  refusing h = let e = ne_eqb (rewrite_code n k l) 0 h in (rw e, rw e)

  -- the same, where the number of the rule is known
  pub refused_with : (e : Refusal) → number e ≡ rewrite_code n k l → (refused (number e) ≡ rewrite_of n k p l) × (l ≡ list_left n k p l)
  refused_with e h = let r = refusing (λ z. absurd (omega (arith, number_pos e))) in (ap refused h ∙ r.0, r.1)

  -- the gates are at the front, and the bytes past them are 0
  pub finishing : (count : ℕ) (x y : List ℕ) → rewrite_code n k l ≡ 0 → count ≤ length l → length x ≡ length l → take count x ≡ rewritten n k p l
      → y ≡ take count x ++ replicate (length x - count) 0 → (answered count ≡ rewrite_of n k p l) × (y ≡ list_left n k p l)
  unfolding rewrite_of list_left
  finishing count x y clear few same front last =
      let c : count ≡ length (rewritten n k p l) = sym (length-take-le count x (omega arith)) ∙ ap length front in
      (rw clear (ap answered c), rw clear (last ∙ (λ i. front i ++ replicate (same i - c i) 0)))
