-- Slip 10 in its own words, over a list and a layout: which are allowed, and which of them is the closest.
use Rattle.std.specs.Prelude.{◌≡◌, true, ◌⊎◌, List, ℕ, ◌≤◌}
use Rattle.record.specs.job_fields.Jobs.{data_wires, rows}
use Rattle.problem.specs.order.Choices.{before}
use Rattle.problem.specs.Problems.{choice_of}
use Rattle.problem.specs.Demand.{Solves}
use Rattle.near_misses.specs.misses.Misses.{missed_bits, missing_any}
use Rattle.outcomes.specs.Outcomes.{problem_of}

-- "within all limits, with the job's n and m, an allowed placing and ancilla clean", whatever wanted bits it misses
abbrev pub Allowed : List ℕ → List ℕ → ℕ → Type 0
Allowed job l p = Solves (missing_any (data_wires job) (problem_of job)) l p

-- "that misses the fewest wanted bits, added up over all rows; ties fall as in the search"
pub record Closest (job l : List ℕ) (p : ℕ) : Type 0 where
  pub allowed : Allowed job l p
  pub fewest : (e : List ℕ) (q : ℕ) → Allowed job e q → missed_bits (rows job) p l ≤ missed_bits (rows job) q e
  pub foremost : (e : List ℕ) (q : ℕ) → Allowed job e q → missed_bits (rows job) q e ≡ missed_bits (rows job) p l
      → ((e ≡ l) × (q ≡ p)) ⊎ (before (choice_of (problem_of job) l p) (choice_of (problem_of job) e q) ≡ true)
