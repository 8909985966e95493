-- The test of one candidate, the best choice after it, and the answer at the end.
use mathlib.Core.Path.{◌≡◌, sym, ◌∙◌}
use mathlib.Core.Bool.{true, false}
use mathlib.Core.List.{List}
use mathlib.Core.Option as maybe
use Rattle.std.proofs.Common.{Some}
use Prim.Native.Nat.{ℕ}
use lib.ListN.{length, take}
use Rattle.record.specs.job_fields.Jobs.{price_of, duration_of}
use Rattle.circuit.specs.declared.measures.Measures.{Measures}
use Rattle.circuit.specs.measures.Measures.{measures_of}
use Rattle.problem.specs.declared.order.Best.{Best}
use Rattle.problem.specs.order.Choices.{Choice, keep, attempt}
use Rattle.problem.specs.order.View.{choice, view}
use Rattle.problem.proofs.order.First.{attempt_not}
use Rattle.problem.specs.Problems.{choice_of, within, good}
use Rattle.outcomes.specs.Outcomes.{problem_over, problem_of, own_set, outcome_of}
use Rattle.outcomes.specs.Inner.{told_of}
use Rattle.scheduler.specs.slot.Inner.{does_for}

module _ (job : List ℕ) (list : List ℕ) (p : ℕ) (m : Measures) (e : m ≡ measures_of (price_of job) (duration_of job) list) where
  good_is : good (problem_of job) (choice_of (problem_of job) list p) ≡ does_for job list p m
  unfolding within choice_of problem_over does_for measures_of
  good_is = rw e

  -- a list that does not do leaves what is held
  pub passed_over : (held : maybe.Option Choice) → does_for job list p m ≡ false
      → held ≡ attempt (good (problem_of job)) held (choice_of (problem_of job) list p)
  passed_over held h = sym (attempt_not (good (problem_of job)) held (choice_of (problem_of job) list p) (good_is ∙ h))

  -- one that does is offered
  pub offered : (held : maybe.Option Choice) → does_for job list p m ≡ true
      → keep held (choice_of (problem_of job) list p) ≡ attempt (good (problem_of job)) held (choice_of (problem_of job) list p)
  unfolding attempt
  offered held h = rw (good_is ∙ h)

-- the list that is offered, as a choice
pub mine : (job path : List ℕ) (len p : ℕ) (m : Measures) → m ≡ measures_of (price_of job) (duration_of job) (take len path) → length (take len path) ≡ len
    → (b : Best) → b.cost ≡ m.cost → b.depth ≡ m.depth → b.layout ≡ p → b.len ≡ len → b.path ≡ path
    → choice b ≡ choice_of (problem_of job) (take len path) p
unfolding choice choice_of problem_over measures_of
mine job path len p m e k b e₁ e₂ e₃ e₄ e₅ = rw (e₁, e₂, e₃, e₄, e₅, e, k)

-- what is told of a circuit that was held, with its measures
pub told_held : (job : List ℕ) (b : Best) (m : Measures) → m ≡ measures_of (price_of job) (duration_of job) (take b.len b.path)
    → told_of job m (view (Some b)) ≡ outcome_of (own_set job) job (view (Some b))
unfolding view choice
told_held job b m e = rw e
