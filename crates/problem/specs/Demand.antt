-- Demand 3 over a problem, in its own words: which lists and layouts there are to choose from, which of them solve it, and which one wins.
use Rattle.std.specs.Prelude.{◌≡◌, true, ◌⊎◌, ℕ, ◌≤◌, length}
use mathlib.Core.List.{List, Memᴰ}
use Rattle.logic.specs.Lists.{Among}
use Rattle.circuit.specs.Measure.{cost, depth}
use Rattle.problem.specs.order.Choices.{before}
use Rattle.problem.specs.Problems.{Problem, choice_of}

-- "a choice of a list of gates lawful for the job and an allowed placing", with at most as many gates as the limit allows
pub record Admitted (P : Problem) (l : List ℕ) (p : ℕ) : Type 0 where
  pub gates_listed : Among P.gates l
  pub gates_within : length l ≤ P.most_gates
  pub layout_listed : Memᴰ p P.layouts

-- an admitted choice that "meets the table within the job's limits on gates, cost and depth"
pub record Solves (P : Problem) (l : List ℕ) (p : ℕ) : Type 0 where
  pub admitted : Admitted P l p
  pub realizing : P.realized p l ≡ true
  pub cost_within : cost P.price l ≤ P.most_cost
  pub depth_within : depth P.duration l ≤ P.most_depth

-- the answer: "Every other choice [..] that does so comes after it [..], and so costs at least as much."
pub record Winner (P : Problem) (l : List ℕ) (p : ℕ) : Type 0 where
  pub solution : Solves P l p
  pub foremost : (e : List ℕ) (q : ℕ) → Solves P e q → ((e ≡ l) × (q ≡ p)) ⊎ (before (choice_of P l p) (choice_of P e q) ≡ true)
  pub cheapest : (e : List ℕ) (q : ℕ) → Solves P e q → cost P.price l ≤ cost P.price e

-- the limit on cost rules out no list that the limit on gates allows
abbrev pub Roomy : Problem → Type 0
Roomy P = (l : List ℕ) → length l ≤ P.most_gates → cost P.price l ≤ P.most_cost
