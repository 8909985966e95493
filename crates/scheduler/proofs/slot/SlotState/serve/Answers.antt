-- A slot that is not working stays; a working one has tried its candidate, and is finished where none is left.
use Rattle.std.proofs.Common.{◌≡◌, refl, true, sym, ap, ◌∙◌, ℕ, List, [], Option, Some, None}
use Rattle.problem.specs.declared.order.Best.{Best}
use Rattle.problem.specs.declared.order.Held.{Held}
use Rattle.problem.specs.order.Choices.{Choice, attempt}
use Rattle.problem.specs.order.View.{view, viewed, held_choice}
use Rattle.problem.specs.Problems.{Problem, good}
use Rattle.outcomes.specs.Outcomes.{problem_of}
use Rattle.scheduler.specs.declared.candidates.Place.{Place}
use Rattle.scheduler.specs.candidates.Inner.{remaining, current_at}
use Rattle.scheduler.specs.slot.Slots.{is_working}
use Rattle.scheduler.specs.slot.View.{view_slot}
use Rattle.scheduler.proofs.slot.Slots.{Sound, working_sound, not_served, served_last, served_on}
use Rattle.scheduler.proofs.slot.SlotState.serve.Goals as goal
use Rattle.scheduler.proofs.slot.SlotState.serve.Goals.{Else-not-is_working}

works : (c : Else-not-is_working) → is_working (view_slot c.args.self.now) ≡ true
works c = sym c.is_working.ensures ∙ c.if-not-is_working.false

sound : (c : Else-not-is_working) → Sound c.args.self.now
sound c = working_sound c.args.self.now (works c)

pub shared_ref_as_front-job : goal.shared_ref_as_front-job
shared_ref_as_front-job c = (sound (goal.at.shared_ref_as_front-job c).Else-not-is_working).short

pub incumbent-requires : goal.incumbent-requires
incumbent-requires c = let h = sound (goal.at.incumbent-requires c).Else-not-is_working in h.held_short

pub attempt-requires-clause-job_value : goal.attempt-requires-clause-job_value
attempt-requires-clause-job_value c = let h = sound (goal.at.attempt-requires-clause-job_value c).Else-not-is_working in h.job_sound_law

pub attempt-requires-clause-len_bound : goal.attempt-requires-clause-len_bound
attempt-requires-clause-len_bound c = let h = sound (goal.at.attempt-requires-clause-len_bound c).Else-not-is_working in h.list_short

pub place_after-next-requires-clause-job_value : goal.place_after-next-requires-clause-job_value
place_after-next-requires-clause-job_value c = let h = sound (goal.at.place_after-next-requires-clause-job_value c).Else-not-is_working in h.job_sound_law

pub place_after-next-requires-clause-len_bound : goal.place_after-next-requires-clause-len_bound
place_after-next-requires-clause-len_bound c = let h = sound (goal.at.place_after-next-requires-clause-len_bound c).Else-not-is_working in h.list_short

pub returns-then-not-is_working-clause-slot : goal.returns-then-not-is_working-clause-slot
returns-then-not-is_working-clause-slot c = not_served c.args.self.now (sym c.is_working.ensures ∙ c.if-not-is_working.true)

none_left : (P : Problem) (o : Option Place) (l : List Choice) → ((x : Place) → o ≡ Some x → ⊥) → remaining P o ≡ l → [] ≡ l
none_left P None l n e = e
none_left P (Some x) l n e = absurd (n x refl)

-- what is kept is the incumbent after the candidate was tried, and what was kept before is the one before
module _ (job : List ℕ) (at : Place) (before after : Option Best) (e k : Option Held) where
  kept_is : viewed held_choice k ≡ view after
      → view after ≡ attempt (good (problem_of job)) (view before) (current_at (problem_of job) at)
      → view before ≡ viewed held_choice e
      → viewed held_choice k ≡ attempt (good (problem_of job)) (viewed held_choice e) (current_at (problem_of job) at)
  kept_is same tried was = same ∙ tried ∙ ap (λ h. attempt (good (problem_of job)) h (current_at (problem_of job) at)) was

pub returns-in_default-clause-slot : goal.returns-in_default-clause-slot
returns-in_default-clause-slot c =
    served_last c.args.self.now (works (goal.at.returns-in_default-clause-slot c).Else-not-is_working) c.kept-held.result
    (kept_is _ c.args.self.now.at c.incumbent.result c.attempt.result c.args.self.now.best c.kept-held.result c.kept-held.ensures.same c.attempt.ensures c.incumbent.ensures)
    c.kept-held.ensures.short
    (none_left _ c.place_after-next.result _ c.in_default.not-Some c.place_after-next.ensures.result_value)

pub returns-in_default-clause-held_short : goal.returns-in_default-clause-held_short
returns-in_default-clause-held_short c = λ h. c.kept-held.ensures.short

pub returns-clause-slot : goal.returns-clause-slot
returns-clause-slot c =
    served_on c.args.self.now (works (goal.at.returns-clause-slot c).Else-not-is_working) c.kept-held.result
    (kept_is _ c.args.self.now.at c.incumbent.result c.attempt.result c.args.self.now.best c.kept-held.result c.kept-held.ensures.same c.attempt.ensures c.incumbent.ensures)
    c.kept-held.ensures.short
    c.in-Some.place c.in-Some.ensures.result_value c.in-Some.ensures.len_bound_2

pub returns-clause-held_short : goal.returns-clause-held_short
returns-clause-held_short c = λ h. c.kept-held.ensures.short
