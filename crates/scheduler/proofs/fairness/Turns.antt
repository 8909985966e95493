-- The turns that a history counts are the turns among its calls: of each history, and of the calls that a caller makes.
use mathlib.Core.Path.{◌≡◌, refl, sym, ap, ◌∙◌, subst}
use mathlib.Core.Bool.{true, false}
use mathlib.Core.List.{List, [], ◌∷◌, ◌++◌}
use Prim.Native.Nat.{ℕ, ◌+◌, ◌*◌, ◌≤◌}
use native.Mathlib.Omega.{arith}
use Rattle.logic.specs.Lists.{all_of, along}
use Rattle.logic.proofs.Chain.{both_left, both_right}
use Rattle.logic.proofs.Fold.{along_append}
use Rattle.outcomes.specs.Outcomes.{problem_of}
use Rattle.scheduler.specs.candidates.Candidates.{candidates}
use Rattle.scheduler.specs.slot.Slots.{is_empty}
use Rattle.scheduler.specs.states.States.{State, slot_at, post_code, after_post}
use Rattle.scheduler.specs.fairness.Histories.{Call, posting, turning, collecting, after_call, Reachable, own_of, turn_of, Since, after_calls, turns_in, leaves, CallsSince, candidate_count, finished_with}
use Rattle.scheduler.proofs.fairness.Steps.{eight, became_left}
use Rattle.scheduler.proofs.fairness.Promises.{since_reached, since_sound, standing_full, onwards, stands, in_time}

-- two of these four calls are turns
pub turns_sample : turns_in (posting 0 [] ∷ turning ∷ collecting 0 15 ∷ turning ∷ []) ≡ 2
unfolding turns_in
turns_sample = refl

-- one call more, at the end or at the front
turns_last : (cs : List Call) (c : Call) → turns_in (cs ++ (c ∷ [])) ≡ turns_in cs + turn_of c
unfolding turns_in
turns_last [] (posting j job) = refl
turns_last [] turning = refl
turns_last [] (collecting j room) = refl
turns_last (posting j job ∷ cs) c = turns_last cs c
turns_last (turning ∷ cs) c = omega (arith, turns_last cs c)
turns_last (collecting j room ∷ cs) c = turns_last cs c

turns_first : (n : ℕ) (c : Call) (cs : List Call) → n + turn_of c + turns_in cs ≡ n + turns_in (c ∷ cs)
unfolding turns_in
turns_first n (posting j job) cs = omega arith
turns_first n turning cs = omega arith
turns_first n (collecting j room) cs = omega arith

-- every history is one of calls, and counts the turns among them
pub calls_since : {i : ℕ} {job : List ℕ} {s : State} {own all : ℕ} → Since i job s own all → CallsSince i job s all
unfolding along turns_in
calls_since (Since.at_posting t r k e z w) = record { given = t; calls = []; reached = r; accepted = k; made = e; counted = w }
calls_since {i = i} {job = job} (Since.by_later t c m n h e full o a) =
    let p = calls_since h in
    record {
      given = p.given;
      calls = p.calls ++ (c ∷ []);
      reached = p.reached;
      accepted = p.accepted;
      made = e ∙ ap (λ (x : State). after_call x c) p.made
          ∙ sym (along_append (λ (c : Call) (x : State). after_call x c) p.calls (c ∷ []) (after_post p.given i job));
      counted = a ∙ ap (λ (x : ℕ). x + turn_of c) p.counted ∙ sym (turns_last p.calls c);
    }

-- a call that does not collect the slot leaves its job there
still : (i : ℕ) (job : List ℕ) (s : State) (own all : ℕ) → Since i job s own all → (c : Call) → leaves i c ≡ true → is_empty (slot_at (after_call s c) i) ≡ false
still i job s own all h c keeps =
    let l = candidates (problem_of job) in
    let p = stands h in
    let b = became_left s i (eight (since_reached h)) (since_sound h).0 c (standing_full job l own (slot_at s i) p) keeps in
    standing_full job l (own + own_of i s c) (slot_at (after_call s c) i) (onwards i job s (after_call s c) own (own_of i s c) l b p)

-- so a history goes on by such calls, and counts the turns among them
pub further : (i : ℕ) (job : List ℕ) (cs : List Call) (s : State) (own all : ℕ) → Since i job s own all → all_of (leaves i) cs ≡ true
    → (later : ℕ) × Since i job (after_calls s cs) later (all + turns_in cs)
unfolding along turns_in all_of
further i job [] s own all h keeps = let e : all ≡ all + 0 = omega arith in (own, subst (λ (n : ℕ). Since i job s own n) e h)
further i job (c ∷ cs) s own all h keeps =
    let k = both_left (leaves i c) (all_of (leaves i) cs) keeps in
    let r = further i job cs (after_call s c) (own + own_of i s c) (all + turn_of c)
    (Since.by_later s c own all h refl (still i job s own all h c k) refl refl)
    (both_right (leaves i c) (all_of (leaves i) cs) keeps) in
    (r.0, subst (λ (n : ℕ). Since i job (after_calls (after_call s c) cs) r.0 n) (turns_first all c cs) r.1)

-- "at most 8 × N overall, counted from its posting", of the calls that a caller makes after the posting: with so many turns among them, and
-- as long as the slot is not collected, the job is finished
pub finished_after : (t : State) → Reachable t → (i : ℕ) (job : List ℕ) → post_code t i job ≡ 0
    → (cs : List Call) → all_of (leaves i) cs ≡ true → 8 * candidate_count job ≤ turns_in cs
    → slot_at (after_calls (after_post t i job) cs) i ≡ finished_with job
finished_after t r i job k cs keeps enough =
    let f = further i job cs (after_post t i job) 0 0 (Since.at_posting t r k refl refl refl) keeps in
    in_time f.1 (omega (arith, enough))
