-- Demand 3 over a problem: the first good choice is a winner, and there is none exactly when nothing solves the problem.
use mathlib.Core.Path.{◌≡◌, refl, sym, ap, ◌∙◌, subst}
use mathlib.Core.Bool.{true, true≢false}
use mathlib.Core.Logic.{◌⊎◌, inl, inr, ⊎_elim, ◌↔◌}
use mathlib.Core.List.{List, [], Memᴰ}
use mathlib.Core.Option.{Option, none, some}
use Prim.Native.Nat.{ℕ, ◌≤◌}
use native.Mathlib.Omega.{arith}
use Rattle.circuit.specs.Measure.{cost}
use Rattle.problem.specs.order.Choices.{Choice, before}
use Rattle.problem.proofs.order.Order.{lex_true}
use Rattle.problem.proofs.order.First.{found, nothing}
use Rattle.problem.specs.Problems.{Problem, choice_of, choices, good, first_good}
use Rattle.problem.specs.Demand.{Admitted, Solves, Winner}
use Rattle.problem.proofs.Listed.{Listed, listed, unlisted, within_parts, within_joined}

module _ (P : Problem) where
  -- the choices are exactly the lists and layouts admitted
  admitted_listed : (l : List ℕ) (p : ℕ) → Admitted P l p → Memᴰ (choice_of P l p) (choices P)
  admitted_listed l p a = unlisted P [] P.most_gates l p a.gates_listed a.gates_within a.layout_listed

  listed_admitted : (a : Choice) (i : Listed P [] P.most_gates a) → Admitted P i.more i.layout
  listed_admitted a i = record { gates_listed = i.among; gates_within = i.short; layout_listed = i.laid }

  solves : (l : List ℕ) (p : ℕ) → Admitted P l p → good P (choice_of P l p) ≡ true → Solves P l p
  unfolding choice_of
  solves l p a h =
      let w = within_parts P P.most_cost (choice_of P l p) h in
      record { admitted = a; realizing = w.0; cost_within = w.1.0; depth_within = w.1.1 }

  solved : (l : List ℕ) (p : ℕ) → Solves P l p → good P (choice_of P l p) ≡ true
  unfolding choice_of
  solved l p s = within_joined P P.most_cost (choice_of P l p) s.realizing s.cost_within s.depth_within

  same_choice : (e l : List ℕ) (q p : ℕ) → choice_of P e q ≡ choice_of P l p → (e ≡ l) × (q ≡ p)
  unfolding choice_of
  same_choice e l q p h = (ap (λ (c : Choice). c.bytes) h, ap (λ (c : Choice). c.layout) h)

  before_cost : (l : List ℕ) (p : ℕ) (e : List ℕ) (q : ℕ) → before (choice_of P l p) (choice_of P e q) ≡ true → cost P.price l ≤ cost P.price e
  unfolding before choice_of
  before_cost l p e q k = ⊎_elim (λ h. omega arith) (λ h. let s = h.0 in omega arith) (lex_true (cost P.price l) (cost P.price e) _ _ k)

  winner : (l : List ℕ) (p : ℕ) → first_good P ≡ some (choice_of P l p) → Admitted P l p → Winner P l p
  unfolding first_good
  winner l p h a =
      let f = found (good P) (choices P) (choice_of P l p) h in
      let first : (e : List ℕ) (q : ℕ) → Solves P e q → ((e ≡ l) × (q ≡ p)) ⊎ (before (choice_of P l p) (choice_of P e q) ≡ true)
      = λ e q s. ⊎_elim
      (λ (k : choice_of P e q ≡ choice_of P l p). inl (same_choice e l q p k))
      (λ (k : before (choice_of P l p) (choice_of P e q) ≡ true). inr k)
      (f.1.1 (choice_of P e q) (admitted_listed e q s.admitted) (solved e q s)) in
      record {
        solution = solves l p a f.1.0;
        foremost = first;
        cheapest = λ e q s. ⊎_elim
            (λ (k : (e ≡ l) × (q ≡ p)). rw k.0 (omega arith))
            (λ (k : before (choice_of P l p) (choice_of P e q) ≡ true). before_cost l p e q k)
            (first e q s);
      }

  first_listed : (c : Choice) → first_good P ≡ some c → Listed P [] P.most_gates c
  unfolding first_good
  first_listed c e = listed P [] P.most_gates c (found (good P) (choices P) c e).0

  -- what is found is a winner, with its own layout, bytes and measures
  pub found_is : (c : Choice) → first_good P ≡ some c → Winner P c.bytes c.layout × (choice_of P c.bytes c.layout ≡ c)
  unfolding choice_of
  found_is c e =
      let i = first_listed c e in
      subst (λ (a : Choice). Winner P a.bytes a.layout × (choice_of P a.bytes a.layout ≡ a)) i.same
      (winner i.more i.layout (e ∙ ap some (sym i.same)) (listed_admitted c i), refl)

  absent : first_good P ≡ none → (l : List ℕ) (p : ℕ) → Solves P l p → ⊥
  unfolding first_good
  absent h l p s = true≢false (sym (solved l p s) ∙ (nothing (good P) (choices P)).0 h (choice_of P l p) (admitted_listed l p s.admitted))

  pub none_is : (first_good P ≡ none) ↔ ((l : List ℕ) (p : ℕ) → Solves P l p → ⊥)
  none_is = (absent, λ f. by_first f (first_good P) refl)
    where
      by_first : ((l : List ℕ) (p : ℕ) → Solves P l p → ⊥) → (o : Option Choice) → first_good P ≡ o → first_good P ≡ none
      by_first f none e = e
      by_first f (some c) e = absurd (f c.bytes c.layout (found_is c e).0.solution)
