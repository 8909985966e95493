-- Neither posting nor collecting is refused with 11.
use mathlib.Core.Path.{◌≡◌}
use mathlib.Core.List.{List}
use Prim.Native.Nat.{ℕ}
use native.Mathlib.Omega.{arith}
use lib.Dec.{leb}
use Rattle.logic.specs.Answers.{refused}
use Rattle.logic.proofs.Answers.{refused_is}
use Rattle.logic.proofs.Chain.{rule_never}
use Rattle.record.specs.JobRules.{job_code}
use Rattle.record.proofs.Never.{job_never, one_number, answer_never}
use Rattle.outcomes.specs.Outcomes.{own_set}
use Rattle.outcomes.proofs.Facts.{outcome_never}
use Rattle.scheduler.specs.slot.Slots.{Slot, empty, working, finished, is_empty, is_finished, result_of}
use Rattle.scheduler.specs.states.States.{State, slot_at, post_code, post_of, collect_code, collect_of}

module _ (s : State) (i : ℕ) where
  pub post_never : (job : List ℕ) → post_of s i job ≡ refused 11 → ⊥
  unfolding post_of post_code
  post_never job h =
      rule_never 11 (leb i 7) 35 _ (λ e. omega arith)
      (rule_never 11 (is_empty (slot_at s i)) 36 (job_code job) (λ e. omega arith) (job_never job))
      (refused_is (post_code s i job) tt 11 h)

  pub collect_never : (room : ℕ) → collect_of s i room ≡ refused 11 → ⊥
  unfolding collect_of collect_code
  collect_never room =
      answer_never 11 (collect_code s i room) (result_of (slot_at s i))
      (rule_never 11 (leb i 7) 35 _ (λ e. omega arith)
      (rule_never 11 (is_finished (slot_at s i)) 37 _ (λ e. omega arith)
      (rule_never 11 (leb 15 room) 13 0 (λ e. omega arith) (λ e. omega arith))))
      (by_slot (slot_at s i))
    where
      by_slot : (x : Slot) → result_of x ≡ refused 11 → ⊥
      by_slot empty h = omega (arith, one_number 11 37 h)
      by_slot (working job left held) h = omega (arith, one_number 11 37 h)
      by_slot (finished job held) h = outcome_never (own_set job) job 11 (λ e. omega arith) held h
