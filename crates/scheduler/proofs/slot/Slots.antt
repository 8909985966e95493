-- What a slot's state stands for, by its stage; and the states that the calls make.
use mathlib.Core.Path.{◌≡◌, refl, sym, ap, ap₂, ◌∙◌}
use mathlib.Core.Bool.{Bool, true, false, false≢true}
use mathlib.Core.List.{List, [], ◌++◌}
use mathlib.Core.Option.{none}
use Prim.Native.Nat.{ℕ, ◌≤◌}
use native.Mathlib.Omega.{arith}
use borrow.Author.Tests.{leb-true, eqb-true, le-leb, eq-eqb}
use lib.Dec.{leb, eqb}
use lib.ListN.{length, take}
use lib.Seq.{take_at, take-length}
use Rattle.logic.specs.Rules.{both, pick}
use Rattle.logic.proofs.Chain.{both_parts, both_true}
use Rattle.record.specs.JobRules.{job_code}
use Rattle.record.proofs.Long.{job_short}
use Rattle.problem.specs.order.Choices.{Choice, attempt}
use Rattle.problem.specs.Problems.{Problem, good}
use Rattle.outcomes.specs.Outcomes.{problem_over, problem_of}
use Rattle.scheduler.specs.declared.candidates.Place.{Place}
use Rattle.scheduler.specs.declared.slot.Stage.{Stage}
use Rattle.problem.specs.declared.order.Held.{Held}
use Rattle.problem.specs.order.View.{viewed, held_choice}
use Rattle.std.proofs.Common.{Option, Some, None}
use Rattle.scheduler.specs.candidates.Inner.{current_at, after_at}
use Rattle.scheduler.specs.candidates.Left.{left, digits_at, left_at}
use Rattle.scheduler.proofs.candidates.Odometer.{all_left}
use Rattle.scheduler.specs.declared.slot.SlotState.{SlotState}
use Rattle.scheduler.specs.slot.Slots.{empty, working, is_empty, is_working, is_finished, going, begun, tried}
use Rattle.scheduler.specs.slot.View.{job_in, held_len, sound_of, stage_said, stage_of, view_stage, view_slot}
use Rattle.scheduler.proofs.slot.Counts.{layouts_few}

-- a state whose fields fit one another
pub record Sound (e : SlotState) : Type 0 where
  pub short : e.size ≤ 30
  pub job_sound_law : job_code (job_in e) ≡ 0
  pub list_short : e.at.len ≤ 12
  pub held_short : held_len e.best ≤ 12

module _ (e : SlotState) where
  sound_of_law : sound_of e ≡ true → Sound e
  unfolding sound_of
  sound_of_law h =
      let lists = both (leb e.at.len 12) (leb (held_len e.best) 12) in
      let p = both_parts (leb e.size 30) (both (eqb (job_code (job_in e)) 0) lists) h in
      let q = both_parts (eqb (job_code (job_in e)) 0) lists p.1 in
      let r = both_parts (leb e.at.len 12) (leb (held_len e.best) 12) q.1 in
      record {
        short = leb-true e.size 30 p.0;
        job_sound_law = eqb-true (job_code (job_in e)) 0 q.0;
        list_short = leb-true e.at.len 12 r.0;
        held_short = leb-true (held_len e.best) 12 r.1;
      }

  sound_is : Sound e → sound_of e ≡ true
  unfolding sound_of
  sound_is s =
      both_true (le-leb e.size 30 s.short)
      (both_true (eq-eqb (job_code (job_in e)) 0 s.job_sound_law)
      (both_true (le-leb e.at.len 12 s.list_short) (le-leb (held_len e.best) 12 s.held_short)))

  stage_is : Sound e → stage_of e ≡ stage_said e.status
  unfolding stage_of
  stage_is s = rw (sound_is s)

  pub seen : (k : Stage) → stage_of e ≡ k → view_slot e ≡ view_stage k e
  unfolding view_slot
  seen k h = ap (λ (k : Stage). view_stage k e) h

  -- the tests of a slot are tests of the stage
  pub not_empty : (k : Stage) → k ≡ stage_of e → (k ≡ Stage.Empty → ⊥) → false ≡ is_empty (view_slot e)
  not_empty Stage.Empty h n = absurd (n refl)
  not_empty Stage.Working h n = sym (ap is_empty (seen Stage.Working (sym h)))
  not_empty Stage.Finished h n = sym (ap is_empty (seen Stage.Finished (sym h)))

  pub not_working : (k : Stage) → k ≡ stage_of e → (k ≡ Stage.Working → ⊥) → false ≡ is_working (view_slot e)
  not_working Stage.Empty h n = sym (ap is_working (seen Stage.Empty (sym h)))
  not_working Stage.Working h n = absurd (n refl)
  not_working Stage.Finished h n = sym (ap is_working (seen Stage.Finished (sym h)))

  pub not_finished : (k : Stage) → k ≡ stage_of e → (k ≡ Stage.Finished → ⊥) → false ≡ is_finished (view_slot e)
  not_finished Stage.Empty h n = sym (ap is_finished (seen Stage.Empty (sym h)))
  not_finished Stage.Working h n = sym (ap is_finished (seen Stage.Working (sym h)))
  not_finished Stage.Finished h n = absurd (n refl)

  -- a working or finished slot has fields that fit, and that stage
  stage_sound : (k : Stage) → (Stage.Empty ≡ k → ⊥) → stage_of e ≡ k → Sound e
  unfolding stage_of
  stage_sound k n h = sound_of_law (by_sound (sound_of e) h)
    where
      by_sound : (t : Bool) → pick t (stage_said e.status) Stage.Empty ≡ k → t ≡ true
      by_sound true h = refl
      by_sound false h = absurd (n h)

  working_stage : is_working (view_slot e) ≡ true → stage_of e ≡ Stage.Working
  unfolding view_slot
  working_stage h = by_stage (stage_of e) h
    where
      by_stage : (k : Stage) → is_working (view_stage k e) ≡ true → k ≡ Stage.Working
      by_stage Stage.Empty h = absurd (false≢true h)
      by_stage Stage.Working h = refl
      by_stage Stage.Finished h = absurd (false≢true h)

  pub finished_stage : is_finished (view_slot e) ≡ true → stage_of e ≡ Stage.Finished
  unfolding view_slot
  finished_stage h = by_stage (stage_of e) h
    where
      by_stage : (k : Stage) → is_finished (view_stage k e) ≡ true → k ≡ Stage.Finished
      by_stage Stage.Empty h = absurd (false≢true h)
      by_stage Stage.Working h = absurd (false≢true h)
      by_stage Stage.Finished h = refl

  pub working_sound : is_working (view_slot e) ≡ true → Sound e
  working_sound h = stage_sound Stage.Working (λ e. cc) (working_stage h)

  pub finished_sound : is_finished (view_slot e) ≡ true → Sound e
  finished_sound h = stage_sound Stage.Finished (λ e. cc) (finished_stage h)

  -- a turn leaves a slot that is not working
  pub not_served : is_working (view_slot e) ≡ false → view_slot e ≡ tried (view_slot e)
  unfolding view_slot
  not_served h = by_stage (stage_of e) h
    where
      by_stage : (k : Stage) → is_working (view_stage k e) ≡ false → view_stage k e ≡ tried (view_stage k e)
      by_stage Stage.Empty h = refl
      by_stage Stage.Working h = absurd (false≢true (sym h))
      by_stage Stage.Finished h = refl

-- a turn of a working slot: its candidate was tried, and the scan goes on
module _ (e : SlotState) (working : is_working (view_slot e) ≡ true) (kept : Option Held) where
  abbrev problem : Problem
  problem = problem_of (job_in e)

  module _ (now : viewed held_choice kept ≡ attempt (good problem) (viewed held_choice e.best) (current_at problem e.at)) (few : held_len kept ≤ 12) where
    -- with what is left
    turned : (l : List Choice) → l ≡ after_at problem e.at → going (job_in e) l (viewed held_choice kept) ≡ tried (view_slot e)
    turned l q = ap₂ (going (job_in e)) q now ∙ sym (ap tried (seen e Stage.Working (working_stage e working)))

    pub served_last : [] ≡ after_at problem e.at
        → view_slot (record { status = 2; size = e.size; job = e.job; at = e.at; best = kept }) ≡ tried (view_slot e)
    served_last d =
        let s = working_sound e working in
        let x : SlotState = record { status = 2; size = e.size; job = e.job; at = e.at; best = kept } in
        seen x Stage.Finished (stage_is x (record { short = s.short; job_sound_law = s.job_sound_law; list_short = s.list_short; held_short = few })) ∙ turned [] d

    pub served_on : (next : Place) → left_at problem next ≡ after_at problem e.at → next.len ≤ 12
        → view_slot (record { status = e.status; size = e.size; job = e.job; at = next; best = kept }) ≡ tried (view_slot e)
    served_on next d short =
        let s = working_sound e working in
        let x : SlotState = record { status = e.status; size = e.size; job = e.job; at = next; best = kept } in
        seen x Stage.Working
        (stage_is x (record { short = s.short; job_sound_law = s.job_sound_law; list_short = short; held_short = few }) ∙ sym (stage_is e s) ∙ working_stage e working)
        ∙ turned (left_at problem next) d

-- a state of that stage stands for an empty slot
pub none_there : (e : SlotState) → stage_said e.status ≡ Stage.Empty → view_slot e ≡ empty
unfolding stage_of
none_there e h = seen e Stage.Empty (by_sound (sound_of e))
  where
    by_sound : (t : Bool) → pick t (stage_said e.status) Stage.Empty ≡ Stage.Empty
    by_sound true = h
    by_sound false = refl

-- what is kept has no gate where nothing is kept
kept_none : (o : Option Held) → viewed held_choice o ≡ none → held_len o ≡ 0
unfolding viewed held_len
kept_none None h = refl
kept_none (Some x) h = cc

-- a job that was just posted
pub posted : (job : List ℕ) → job_code job ≡ 0 → (e : SlotState) (rest : List ℕ)
    → stage_said e.status ≡ Stage.Working → e.size ≡ length job → e.job ≡ take (length job) job ++ rest
    → digits_at e.at ≡ [] → e.at.layout ≡ 0 → e.at.len ≤ 12 → viewed held_choice e.best ≡ none
    → view_slot e ≡ begun job
unfolding begun problem_over
posted job sound e rest stage size bytes start first short nothing =
    let P = problem_of job in
    let here : job_in e ≡ job
    = ap₂ take size (bytes ∙ ap (λ (l : List ℕ). l ++ rest) (take-length job)) ∙ take_at job rest (length job) refl in
    let fits = job_short job sound in
    let few = kept_none e.best nothing in
    let s : Sound e
    = record { short = omega arith; job_sound_law = ap job_code here ∙ sound; list_short = short; held_short = omega arith } in
    seen e Stage.Working (stage_is e s ∙ stage)
    ∙ ap (λ (l : List ℕ). working l (left_at (problem_of l) e.at) (viewed held_choice e.best)) here
    ∙ ap₂ (λ (ds : List ℕ) (p : ℕ). working job (left P ds p) (viewed held_choice e.best)) start first
    ∙ ap₂ (going job) (all_left P (layouts_few job sound).0) nothing
