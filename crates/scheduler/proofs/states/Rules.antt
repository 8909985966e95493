-- The codes of posting and collecting, by their parts; and the two ways out of each call.
use mathlib.Core.Path.{◌≡◌, sym}
use mathlib.Core.Bool.{true, true≢false}
use mathlib.Core.List.{List}
use mathlib.Core.Option.{none, some}
use Prim.Native.Nat.{ℕ, ◌≤◌}
use native.Mathlib.Omega.{arith}
use borrow.Author.Tests.{leb-true, eq-eqb, ne_eqb}
use lib.Dec.{leb, lit<}
use Rattle.logic.specs.Rules.{rule}
use Rattle.logic.specs.Answers.{refused, answered}
use Rattle.logic.proofs.Chain.{rule_kept}
use Rattle.record.specs.Answers.{number}
use Rattle.record.specs.JobRules.{job_code}
use Rattle.record.specs.declared.refusal.Refusal.{Refusal}
use Rattle.record.proofs.Refusals.{number_pos}
use Rattle.outcomes.specs.Outcomes.{reported}
use Rattle.scheduler.specs.slot.Slots.{Slot, empty, working, finished, is_empty, is_finished, begun, result_of}
use Rattle.scheduler.specs.states.States.{State, slot_at, with_slot, post_code, post_of, after_post, collect_code, collect_of, after_collect}

-- an answer is no refusal
pub answered_never : {A : Type 0} (a : A) (n : ℕ) → answered a ≡ refused n → ⊥
answered_never a n e = let z : ◌≡◌ {A = ℕ} 0 1 = cc in absurd (omega arith)

-- a finished slot is refused by no number but 14
pub only_none : (x : Slot) → is_finished x ≡ true → (n : ℕ) → reported (result_of x) ≡ refused n → n ≡ 14
only_none empty h n e = absurd (true≢false (sym h))
only_none (working job left held) h n e = absurd (true≢false (sym h))
only_none (finished job none) h n e = cc
only_none (finished job (some c)) h n e = absurd (answered_never _ n e)

module _ (s : State) (i : ℕ) (job : List ℕ) where
  pub post_parts : post_code s i job ≡ 0 → (i ≤ 7) × ((is_empty (slot_at s i) ≡ true) × (job_code job ≡ 0))
  unfolding post_code
  post_parts h =
      let p = rule_kept (leb i 7) 35 (rule (is_empty (slot_at s i)) 36 (job_code job)) (lit< tt) h in
      let q = rule_kept (is_empty (slot_at s i)) 36 (job_code job) (lit< tt) p.1 in
      (leb-true i 7 p.0, q)

  pub post_refused : (post_code s i job ≡ 0 → ⊥) → (refused (post_code s i job) ≡ post_of s i job) × (s ≡ after_post s i job)
  unfolding post_of after_post
  post_refused h = let e = ne_eqb (post_code s i job) 0 h in (rw e, rw e)

  pub post_accepted : post_code s i job ≡ 0 → (answered tt ≡ post_of s i job) × (with_slot s i (begun job) s.last ≡ after_post s i job)
  unfolding post_of after_post
  post_accepted h = let e = eq-eqb (post_code s i job) 0 h in (rw e, rw e)

module _ (s : State) (i room : ℕ) where
  pub collect_parts : collect_code s i room ≡ 0 → (i ≤ 7) × ((is_finished (slot_at s i) ≡ true) × (15 ≤ room))
  unfolding collect_code
  collect_parts h =
      let p = rule_kept (leb i 7) 35 (rule (is_finished (slot_at s i)) 37 (rule (leb 15 room) 13 0)) (lit< tt) h in
      let q = rule_kept (is_finished (slot_at s i)) 37 (rule (leb 15 room) 13 0) (lit< tt) p.1 in
      (leb-true i 7 p.0, (q.0, leb-true 15 room (rule_kept (leb 15 room) 13 0 (lit< tt) q.1).0))

  pub collect_refused : (collect_code s i room ≡ 0 → ⊥) → (refused (collect_code s i room) ≡ collect_of s i room) × (s ≡ after_collect s i room)
  unfolding collect_of after_collect
  collect_refused h = let e = ne_eqb (collect_code s i room) 0 h in (rw e, rw e)

  pub collect_done : collect_code s i room ≡ 0 → (result_of (slot_at s i) ≡ collect_of s i room) × (with_slot s i empty s.last ≡ after_collect s i room)
  unfolding collect_of after_collect
  collect_done h = let e = eq-eqb (collect_code s i room) 0 h in (rw e, rw e)

-- a refusal is the code of the first rule broken
module _ (s : State) (i : ℕ) (r : Refusal) where
  pub post_by : (job : List ℕ) → number r ≡ post_code s i job → (refused (number r) ≡ post_of s i job) × (s ≡ after_post s i job)
  post_by job h = let p = post_refused s i job (λ z. omega (arith, number_pos r)) in (rw h p.0, p.1)

  pub collect_by : (room : ℕ) → number r ≡ collect_code s i room → (refused (number r) ≡ collect_of s i room) × (s ≡ after_collect s i room)
  collect_by room h = let p = collect_refused s i room (λ z. omega (arith, number_pos r)) in (rw h p.0, p.1)
