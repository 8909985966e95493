-- Every call keeps the tie between owners and slots, and what is collected from a finished slot is the search's answer to its owner's job.
use mathlib.Core.Path.{◌≡◌, refl, sym, ap, ◌∙◌, subst}
use mathlib.Core.Bool.{Bool, true, false, true≢false}
use mathlib.Core.List.{List}
use mathlib.Core.Option.{Option, none, some}
use Prim.Native.Nat.{ℕ, zero, suc, ◌+◌, ◌<◌}
use native.Mathlib.Decide.{ℕ_discrete}
use native.Mathlib.Omega.{arith}
use borrow.Author.Tests.{le-leb}
use lib.ListN.{length, get_or, set, replicate, length-set}
use lib.Seq.{get_or-set_same, get_or-set_other}
use Rattle.logic.specs.Answers.{Answer, refused, answered}
use Rattle.text.specs.pieces.Text.{refused_line, found_line}
use Rattle.outcomes.specs.Outcomes.{Found, search_of}
use Rattle.record.specs.Answers.{number}
use Rattle.record.specs.declared.refusal.Refusal.{Refusal}
use Rattle.record.specs.declared.refusal.Refusal.TheVariants as broken
use Rattle.printed.specs.job_line.Lines.{line_for, line_of}
use Rattle.batch.specs.cutting.Records.{job_at}
use Rattle.scheduler.specs.slot.Slots.{Slot, empty, working, finished, is_empty, is_working, is_finished, begun, tried}
use Rattle.scheduler.specs.states.States.{State, start_state, slot_at, post_code, after_post, post_of, served_by, after_serving, after_turn, collect_code, collect_of, after_collect}
use Rattle.scheduler.specs.fairness.Histories.{Call, posting, turning, collecting, after_call, Reachable, own_of, turn_of, Since}
use Rattle.scheduler.proofs.states.Rules.{post_refused, post_accepted, collect_parts, collect_refused, collect_done}
use Rattle.scheduler.proofs.states.Serving.{served_is}
use Rattle.scheduler.proofs.fairness.Promises.{as_searched}
use Rattle.slots.specs.Work.{job_of, Kept}

working_full : (x : Slot) → is_working x ≡ true → is_empty x ≡ false
working_full empty h = sym h
working_full (working job left held) h = refl
working_full (finished job held) h = refl

finished_full : (x : Slot) → is_finished x ≡ true → (is_empty x ≡ false) × (is_working x ≡ false)
finished_full empty h = (sym h, refl)
finished_full (working job left held) h = (refl, sym h)
finished_full (finished job held) h = (refl, refl)

-- a slot that is not empty after a call was not empty before, unless the call posted to it
module _ (s : State) (i : ℕ) where
  full_turn : is_empty (slot_at (after_turn s) i) ≡ false → is_empty (slot_at s i) ≡ false
  unfolding after_turn
  full_turn = by_served (served_by s) refl
    where
      by_slot : (j : ℕ) → is_working (slot_at s j) ≡ true → Dec (i ≡ j) → is_empty (slot_at (after_serving s (some j)) i) ≡ false
          → is_empty (slot_at s i) ≡ false
      by_slot j w (yes q) h = working_full (slot_at s i) (ap (λ (k : ℕ). is_working (slot_at s k)) q ∙ w)
      by_slot j w (no n) h = ap is_empty (sym (get_or-set_other s.slots j i (tried (slot_at s j)) empty n)) ∙ h

      by_served : (o : Option ℕ) → served_by s ≡ o → is_empty (slot_at (after_serving s o) i) ≡ false → is_empty (slot_at s i) ≡ false
      by_served none e h = h
      by_served (some j) e h = by_slot j (served_is s j e).1 (ℕ_discrete i j) h

  full_collect : (j room : ℕ) → is_empty (slot_at (after_collect s j room) i) ≡ false → is_empty (slot_at s i) ≡ false
  full_collect j room h = by_code (ℕ_discrete (collect_code s j room) 0) (ℕ_discrete i j)
    where
      by_code : Dec (collect_code s j room ≡ 0) → Dec (i ≡ j) → is_empty (slot_at s i) ≡ false
      by_code (no k) d = ap (λ (t : State). is_empty (slot_at t i)) (collect_refused s j room k).1 ∙ h
      by_code (yes e) (yes q) =
          (finished_full (slot_at s i) (ap (λ (k : ℕ). is_finished (slot_at s k)) q ∙ (collect_parts s j room e).1.0)).0
      by_code (yes e) (no n) =
          ap is_empty (sym (get_or-set_other s.slots j i empty empty n))
          ∙ ap (λ (t : State). is_empty (slot_at t i)) (collect_done s j room e).1
          ∙ h

  full_post : (j : ℕ) (job : List ℕ) → (i ≡ j → ⊥) → is_empty (slot_at (after_post s j job) i) ≡ false → is_empty (slot_at s i) ≡ false
  full_post j job n h = by_code (ℕ_discrete (post_code s j job) 0)
    where
      by_code : Dec (post_code s j job ≡ 0) → is_empty (slot_at s i) ≡ false
      by_code (no k) = ap (λ (t : State). is_empty (slot_at t i)) (post_refused s j job k).1 ∙ h
      by_code (yes e) =
          ap is_empty (sym (get_or-set_other s.slots j i (begun job) empty n))
          ∙ ap (λ (t : State). is_empty (slot_at t i)) (post_accepted s j job e).1
          ∙ h

all_empty : (n i : ℕ) → is_empty (get_or (replicate n empty) i empty) ≡ true
all_empty zero i = refl
all_empty (suc n) zero = refl
all_empty (suc n) (suc i) = all_empty n i

-- a job that was accepted broke no rule
pub accepted_code : (s : State) (i : ℕ) (job : List ℕ) → answered tt ≡ post_of s i job → post_code s i job ≡ 0
accepted_code s i job e = by_code (ℕ_discrete (post_code s i job) 0)
  where
    by_code : Dec (post_code s i job ≡ 0) → post_code s i job ≡ 0
    by_code (yes q) = q
    by_code (no k) = let u = (post_refused s i job k).0 ∙ sym e in let z : ◌≡◌ {A = ℕ} 0 1 = cc in absurd (omega arith)

pub kept_start : (jobs owners : List ℕ) → length owners ≡ 8 → Kept jobs owners start_state
kept_start jobs owners l = record {
  eight = l;
  reached = Reachable.at_start refl;
  owned = λ i h e. absurd (true≢false (sym (all_empty 8 i) ∙ e));
}

module _ {jobs owners : List ℕ} {s : State} (k : Kept jobs owners s) where
  kept_call : (c : Call) → ((i : ℕ) → is_empty (slot_at (after_call s c) i) ≡ false → is_empty (slot_at s i) ≡ false)
      → Kept jobs owners (after_call s c)
  kept_call c full = record {
    eight = k.eight;
    reached = Reachable.by_call s c k.reached refl;
    owned = λ i h e. let o = k.owned i h (full i e) in
        (o.0 + own_of i s c, (o.1.0 + turn_of c, Since.by_later s c o.0 o.1.0 o.1.1 refl e refl refl));
  }

  pub kept_turn : Kept jobs owners (after_turn s)
  kept_turn = kept_call turning (λ i h. full_turn s i h)

  pub kept_collect : (j room : ℕ) → Kept jobs owners (after_collect s j room)
  kept_collect j room = kept_call (collecting j room) (λ i h. full_collect s i j room h)

  -- the slot that takes a job gets its number
  pub kept_post : (j n : ℕ) (job : List ℕ) → job ≡ job_at jobs n → post_code s j job ≡ 0
      → Kept jobs (set owners j n) (after_post s j job)
  kept_post j n job own code = record {
    eight = length-set owners j n ∙ k.eight;
    reached = Reachable.by_call s (posting j job) k.reached refl;
    owned = λ i h e. by_slot i h e (ℕ_discrete i j);
  }
    where
      Owned : ℕ → Type 0
      Owned i = (own : ℕ) × ((all : ℕ) × Since i (job_of jobs (set owners j n) i) (after_post s j job) own all)

      here : j < 8 → Owned j
      here h =
          let l = k.eight in
          let e : job_at jobs n ≡ job_of jobs (set owners j n) j = ap (job_at jobs) (sym (get_or-set_same owners j n 0 (omega arith))) in
          (0, (0, subst (λ (x : List ℕ). Since j x (after_post s j job) 0 0) (own ∙ e) (Since.at_posting s k.reached code refl refl refl)))

      by_slot : (i : ℕ) → i < 8 → is_empty (slot_at (after_post s j job) i) ≡ false → Dec (i ≡ j) → Owned i
      by_slot i h e (yes q) = subst Owned (sym q) (here (subst (λ (x : ℕ). x < 8) q h))
      by_slot i h e (no d) =
          let o = k.owned i h (full_post s i j job d e) in
          let n = o.0 + 0 in
          let m = o.1.0 + 0 in (
            n,
            (
              m,
              subst (λ (x : ℕ). Since i (job_at jobs x) (after_post s j job) n m) (sym (get_or-set_other owners j i _ 0 d))
                  (Since.by_later s (posting j job) o.0 o.1.0 o.1.1 refl e refl refl),
            ),
          )

  unfinished : (i : ℕ) → i < 8 → is_finished (slot_at s i) ≡ false → collect_of s i 15 ≡ refused 37
  unfolding collect_of collect_code
  unfinished i h e = rw (le-leb i 7 (omega arith), e)

  -- what is collected from a slot, unless it is not finished, is the search's answer to its owner's job
  pub answer_is : (i : ℕ) → i < 8 → (collect_of s i 15 ≡ refused 37 → ⊥) → collect_of s i 15 ≡ search_of (job_of jobs owners i) 15
  answer_is i h done = by_stage (is_finished (slot_at s i)) refl
    where
      by_stage : (t : Bool) → is_finished (slot_at s i) ≡ t → collect_of s i 15 ≡ search_of (job_of jobs owners i) 15
      by_stage true e =
          let f = finished_full (slot_at s i) e in
          let o = k.owned i h f.0 in
          as_searched o.1.1 f.1 15
      by_stage false e = absurd (done (unfinished i h e))

  -- so its line is the job's
  pub line_refused : (i code : ℕ) → i < 8 → collect_of s i 15 ≡ refused code → (code ≡ 37 → ⊥) → line_of (job_of jobs owners i) ≡ refused_line code
  unfolding line_of
  line_refused i code h e n = ap line_for (sym (answer_is i h (λ q. n (same_code (sym e ∙ q)))) ∙ e)
    where
      same_code : ◌≡◌ {A = Answer Found} (refused code) (refused 37) → code ≡ 37
      same_code q = cc

  pub line_found : (i : ℕ) (f : Found) → i < 8 → collect_of s i 15 ≡ answered f → line_of (job_of jobs owners i) ≡ found_line f.measures f.bytes
  unfolding line_of
  line_found i f h e = ap line_for (sym (answer_is i h (λ q. apart (sym e ∙ q))) ∙ e)
    where
      apart : ◌≡◌ {A = Answer Found} (answered f) (refused 37) → ⊥
      apart q = let z : ◌≡◌ {A = ℕ} 0 1 = cc in omega arith

-- no other refusal has its number
pub finished_number : (r : Refusal) → (r ≡ broken.SlotUnfinished → ⊥) → number r ≡ 37 → ⊥
finished_number broken.JobLength n e = omega (arith, e)
finished_number broken.JobSize n e = omega (arith, e)
finished_number broken.JobHead n e = omega (arith, e)
finished_number broken.GateLimit n e = omega (arith, e)
finished_number broken.Duration n e = omega (arith, e)
finished_number broken.Row n e = omega (arith, e)
finished_number broken.CircuitLength n e = omega (arith, e)
finished_number broken.CircuitHead n e = omega (arith, e)
finished_number broken.Layout n e = omega (arith, e)
finished_number broken.GateCount n e = omega (arith, e)
finished_number broken.OtherWires n e = omega (arith, e)
finished_number broken.AnswerRoom n e = omega (arith, e)
finished_number broken.NoCircuit n e = omega (arith, e)
finished_number broken.LayoutNotAllowed n e = omega (arith, e)
finished_number broken.TableMissed n e = omega (arith, e)
finished_number broken.TooManyGates n e = omega (arith, e)
finished_number broken.TooDear n e = omega (arith, e)
finished_number broken.TooDeep n e = omega (arith, e)
finished_number broken.Value n e = omega (arith, e)
finished_number broken.UnlawfulGate n e = omega (arith, e)
finished_number broken.TextForm n e = omega (arith, e)
finished_number broken.TextGates n e = omega (arith, e)
finished_number broken.DirtyAncilla n e = omega (arith, e)
finished_number broken.SizesLength n e = omega (arith, e)
finished_number broken.BatchForm n e = omega (arith, e)
finished_number broken.BatchRoom n e = omega (arith, e)
finished_number broken.UnfitMark n e = omega (arith, e)
finished_number broken.LibraryLength n e = omega (arith, e)
finished_number broken.LibraryEntry n e = omega (arith, e)
finished_number broken.UnlistedGate n e = omega (arith, e)
finished_number broken.Window n e = omega (arith, e)
finished_number broken.ListLength n e = omega (arith, e)
finished_number broken.ListGate n e = omega (arith, e)
finished_number broken.NoSlot n e = omega (arith, e)
finished_number broken.SlotTaken n e = omega (arith, e)
finished_number broken.SlotUnfinished n e = n refl
finished_number broken.NotComparable n e = omega (arith, e)
