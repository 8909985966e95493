-- How many candidates a job has: the layouts, times the lists of each length up to the limit.
use mathlib.Core.Path.{◌≡◌, refl, sym, ap, ap₂, ◌∙◌}
use mathlib.Core.List.{List, [], ◌∷◌, map, flat_map}
use Prim.Native.Nat.{ℕ, zero, suc, ◌+◌, ◌*◌, ◌^◌}
use native.Mathlib.Nat.{zero-mul, suc-mul, add-mul, mul_comm, pow-zero, pow-suc}
use native.Mathlib.Omega.{arith}
use lib.ListN.{length, length-append}
use Rattle.logic.specs.Lists.{total, numbers_from}
use Rattle.problem.specs.Problems.{Problem, choice_of, here}
use Rattle.problem.specs.order.Choices.{lists}
use Rattle.scheduler.specs.candidates.Candidates.{of_length, candidates}

module _ {A B : Type 0} where
  length-map : (f : A → B) (l : List A) → length (map f l) ≡ length l
  length-map f [] = refl
  length-map f (x ∷ l) = ap suc (length-map f l)

  length_each : (f : A → List B) (h : A → ℕ) → ((a : A) → length (f a) ≡ h a) → (l : List A) → length (flat_map f l) ≡ total h l
  unfolding flat_map total
  length_each f h e [] = refl
  length_each f h e (x ∷ l) = length-append (f x) (flat_map f l) ∙ ap₂ (λ (m n : ℕ). m + n) (e x) (length_each f h e l)

-- the same number for each
total_same : {A : Type 0} (n : ℕ) (l : List A) → total (λ (a : A). n) l ≡ length l * n
unfolding total
total_same n [] = sym (zero-mul n)
total_same n (x ∷ l) = omega (arith, total_same n l, suc-mul (length l) n)

total_times : (n : ℕ) (h : ℕ → ℕ) (l : List ℕ) → total (λ (k : ℕ). h k * n) l ≡ total h l * n
unfolding total
total_times n h [] = sym (zero-mul n)
total_times n h (k ∷ l) = omega (arith, total_times n h l, add-mul (h k) (total h l) n)

-- as many lists of k gates as there are numbers of k digits
lists_many : (gates : List ℕ) (k : ℕ) → length (lists gates k) ≡ length gates ^ k
unfolding lists
lists_many gates zero = sym (pow-zero (length gates))
lists_many gates (suc k) =
    length_each (λ (g : ℕ). map (λ (l : List ℕ). g ∷ l) (lists gates k)) (λ (g : ℕ). length gates ^ k)
    (λ g. length-map (λ (l : List ℕ). g ∷ l) (lists gates k) ∙ lists_many gates k) gates
    ∙ total_same (length gates ^ k) gates
    ∙ mul_comm (length gates) (length gates ^ k)
    ∙ sym (pow-suc (length gates) k)

pub candidate_count_law : (P : Problem)
    → length (candidates P) ≡ total (λ (k : ℕ). length P.gates ^ k) (numbers_from 0 (suc P.most_gates)) * length P.layouts
unfolding candidates of_length here
candidate_count_law P =
    length_each (of_length P) (λ (k : ℕ). length P.gates ^ k * length P.layouts)
    (λ k. length_each (here P) (λ (l : List ℕ). length P.layouts) (λ l. length-map (choice_of P l) P.layouts) (lists P.gates k)
    ∙ total_same (length P.layouts) (lists P.gates k)
    ∙ ap (λ (n : ℕ). n * length P.layouts) (lists_many P.gates k))
    (numbers_from 0 (suc P.most_gates))
    ∙ total_times (length P.layouts) (λ (k : ℕ). length P.gates ^ k) (numbers_from 0 (suc P.most_gates))
