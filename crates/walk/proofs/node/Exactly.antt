-- Where only lists of exactly so many gates and exactly so much cost can be good: a rest that is no sum of so many prices, and one gate more.
use mathlib.Core.Path.{◌≡◌, refl}
use mathlib.Core.Bool.{Bool, true, false}
use mathlib.Core.List.{List, [], ◌∷◌, ◌++◌, append_assoc, Memᴰ}
use mathlib.Core.Option.{Option}
use Prim.Native.Nat.{ℕ, ◌+◌, ◌-◌, ◌*◌, ◌≤◌, ◌<◌}
use native.Mathlib.Omega.{arith}
use lib.ListN.{length, get_or}
use Rattle.logic.specs.Lists.{Among}
use Rattle.logic.proofs.Fold.{total_append}
use Rattle.logic.proofs.Members.{among_cons}
use Rattle.circuit.specs.Measure.{cost}
use Rattle.problem.specs.order.Choices.{Choice, attempt}
use Rattle.problem.proofs.order.First.{attempt_not}
use Rattle.problem.specs.Problems.{Problem, choice_of, within}
use Rattle.problem.specs.Inner.{looked_under}
use Rattle.problem.proofs.Skips.{skip_all}
use Rattle.walk.specs.node.States.{Exact}

module _ (P : Problem) (limit : ℕ) (l : List ℕ) (k : ℕ) (sums : List ℕ) (exact : Exact P limit l k sums) where
  -- no list of k gates costs what is left of the limit, so none is good
  pub no_sum : (paid : ℕ) → paid ≡ cost P.price l → paid ≤ limit → 13 * (limit - paid) + k < length sums → get_or sums (13 * (limit - paid) + k) 0 ≡ 0
      → (x : Option Choice) → looked_under P limit l k x ≡ x
  no_sum paid at h within-sums none x =
      skip_all P limit l k x λ e p among m short. by_test e p among m short (within P limit (choice_of P (l ++ e) p)) refl
    where
      by_test : (e : List ℕ) (p : ℕ) → Among P.gates e → Memᴰ p P.layouts → length e ≤ k → (t : Bool) → within P limit (choice_of P (l ++ e) p) ≡ t
          → attempt (within P limit) x (choice_of P (l ++ e) p) ≡ x
      by_test e p among m short true q =
          let only = exact.only (omega arith) e p among m short q in
          let joined = total_append P.price l e in
          let place : 13 * cost P.price e + length e ≡ 13 * (limit - paid) + k = omega arith in
          let some = rw place at (exact.marked e among short (omega arith)) in
          absurd (omega arith)
      by_test e p among m short false q = attempt_not (within P limit) x (choice_of P (l ++ e) p) q

  -- one gate further one gate fewer is to come
  pub exact_next : (g : ℕ) → Memᴰ g P.gates → 0 < k → Exact P limit (l ++ (g ∷ [])) (k - 1) sums
  exact_next g i some = record {
    marked = λ e among short h. exact.marked e among (omega arith) h;
    only = λ any e p among m short good.
        let only = exact.only any (g ∷ e) p (among_cons i among) m (omega arith) (rw append_assoc at good) in
        (omega arith, rw append_assoc only.1);
  }
