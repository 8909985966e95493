-- What a caller is promised (document 02): how many turns a job takes, its answer, and what others have to do with it.
use mathlib.Core.Path.{◌≡◌, refl, sym, ap, ◌∙◌, subst}
use mathlib.Core.Bool.{Bool, true, false, true≢false}
use mathlib.Core.Logic.{inl, inr, ⊎_elim}
use mathlib.Core.List.{List}
use mathlib.Core.Option.{Option, some}
use Prim.Native.Nat.{ℕ, ◌+◌, ◌*◌, ◌≤◌, ◌<◌}
use native.Mathlib.Decide.{ℕ_discrete}
use native.Mathlib.Omega.{arith}
use borrow.Author.Tests.{le-leb, eq-eqb}
use lib.Dec.{leb, eqb}
use Rattle.logic.specs.Rules.{pick, rule}
use Rattle.logic.specs.Answers.{refused, answered}
use Rattle.logic.proofs.Chain.{rule_never}
use Rattle.record.specs.JobRules.{job_code}
use Rattle.problem.specs.order.Choices.{Choice}
use Rattle.outcomes.specs.Outcomes.{problem_of, Found, reported, search_over, search_of}
use Rattle.record.specs.pair_codes.Codes.{search_code}
use Rattle.scheduler.specs.candidates.Candidates.{candidates}
use Rattle.scheduler.proofs.candidates.Alone.{as_alone}
use Rattle.scheduler.specs.slot.Slots.{Slot, empty, finished, is_empty, is_working, is_finished, begun}
use Rattle.scheduler.specs.states.States.{State, slot_at, with_slot, post_code, post_of, after_post, served_by, after_serving, after_turn, collect_code, collect_of, after_collect}
use Rattle.scheduler.proofs.states.Rules.{answered_never, only_none, post_parts, post_refused, post_accepted, collect_parts, collect_refused, collect_done}
use Rattle.scheduler.specs.fairness.Histories.{Call, posting, turning, collecting, after_call, Reachable, own_of, turn_of, Since, candidate_count, working_after, finished_with, Standing}
use Rattle.scheduler.proofs.fairness.Steps.{Eight, eight, Became, filled, vacated, became, StandingIn, stepped, starting}
use Rattle.scheduler.proofs.fairness.Ahead.{ahead, ahead_few, ahead_own, served_found}

-- a state with a job that is not collected is one that the calls made
pub since_reached : {i : ℕ} {job : List ℕ} {s : State} {own all : ℕ} → Since i job s own all → Reachable s
since_reached {i = i} {job = job} (Since.at_posting t r k e z w) = Reachable.by_call t (posting i job) r e
since_reached (Since.by_later t c m n h e full o a) = Reachable.by_call t c (since_reached h) e

-- the job was well-formed, and there is such a slot
pub since_sound : {i : ℕ} {job : List ℕ} {s : State} {own all : ℕ} → Since i job s own all → (i ≤ 7) × (job_code job ≡ 0)
since_sound {i = i} {job = job} (Since.at_posting t r k e z w) = let p = post_parts t i job k in (p.0, p.1.1)
since_sound (Since.by_later t c m n h e full o a) = since_sound h

-- a slot that stands so is not empty
pub standing_full : (job : List ℕ) (l : List Choice) (own : ℕ) (slot : Slot) → StandingIn job l own slot → is_empty slot ≡ false
standing_full job l own slot (inl p) = ap is_empty p.1
standing_full job l own slot (inr p) = ap is_empty p.1

-- one call more
pub onwards : (i : ℕ) (job : List ℕ) (t s : State) (m own : ℕ) (l : List Choice) → Became t s i own → StandingIn job l m (slot_at t i) → StandingIn job l (m + own) (slot_at s i)
onwards i job t s m own l (Became.stayed e z) h =
    let q : m ≡ m + own = omega arith in
    subst (λ (n : ℕ). StandingIn job l n (slot_at s i)) q (subst (StandingIn job l m) (sym e) h)
onwards i job t s m own l (Became.had_turn w e z) h =
    let q : m + 1 ≡ m + own = omega arith in
    subst (λ (n : ℕ). StandingIn job l n (slot_at s i)) q (subst (StandingIn job l (m + 1)) (sym e) (stepped job l m (slot_at t i) h w))

pub stands : {i : ℕ} {job : List ℕ} {s : State} {own all : ℕ} → Since i job s own all → StandingIn job (candidates (problem_of job)) own (slot_at s i)
unfolding begun
stands {i = i} {job = job} {s = s} (Since.at_posting t r k e z w) =
    subst (λ (n : ℕ). StandingIn job (candidates (problem_of job)) n (slot_at s i)) (sym z)
    (subst (StandingIn job (candidates (problem_of job)) 0) (sym (ap (λ (x : State). slot_at x i) e ∙ filled t i (eight r) (post_parts t i job k).0 job k))
    (starting job (candidates (problem_of job))))
stands {i = i} {job = job} {s = s} (Since.by_later t c m n h e full o a) =
    let l = candidates (problem_of job) in
    let p = stands h in
    let b = became t i (eight (since_reached h)) (since_sound h).0 c (standing_full job l m (slot_at t i) p) (ap (λ (x : State). is_empty (slot_at x i)) (sym e) ∙ full) in
    subst (λ (k : ℕ). StandingIn job l k (slot_at s i)) (sym o)
    (subst (λ (x : State). StandingIn job l (m + own_of i t c) (slot_at x i)) (sym e) (onwards i job t (after_call t c) m (own_of i t c) l b p))

-- 1. "A job with N candidates finishes in exactly N turns of its own", with the first good one of them, which is the search's. Until then it
-- has tried as many as it had turns.
pub own_turns : {i : ℕ} {job : List ℕ} {s : State} {own all : ℕ} → Since i job s own all → Standing job own (slot_at s i)
own_turns {job = job} {own = own} h =
    ⊎_elim (λ p. inl p) (λ p. inr (p.0, p.1 ∙ ap (finished job) (as_alone (problem_of job)))) (stands h)

-- a call that is no turn leaves the slot served last
post_last : (t : State) (j : ℕ) (job : List ℕ) → (after_post t j job).last ≡ t.last
unfolding after_post
post_last t j job = by_code (eqb (post_code t j job) 0)
  where
    by_code : (b : Bool) → (pick b (with_slot t j (begun job) t.last) t).last ≡ t.last
    by_code true = refl
    by_code false = refl

collect_last : (t : State) (j room : ℕ) → (after_collect t j room).last ≡ t.last
unfolding after_collect
collect_last t j room = by_code (eqb (collect_code t j room) 0)
  where
    by_code : (b : Bool) → (pick b (with_slot t j empty t.last) t).last ≡ t.last
    by_code true = refl
    by_code false = refl

turn_last : (t : State) (j : ℕ) → served_by t ≡ some j → (after_turn t).last ≡ j
unfolding after_turn
turn_last t j e = ap (λ (o : Option ℕ). (after_serving t o).last) e

-- all turns, and those until the slot's next one, against its own
one_call : (t : State) (i m n : ℕ) (c : Call) → Eight t → i ≤ 7 → is_working (slot_at t i) ≡ true → n + ahead t.last i ≤ 8 * m + 7
    → n + turn_of c + ahead (after_call t c).last i ≤ 8 * (m + own_of i t c) + 7
one_call t i m n (posting j job) h few w k = rw (post_last t j job) (omega arith)
one_call t i m n (collecting j room) h few w k = rw (collect_last t j room) (omega arith)
one_call t i m n turning h few w k =
    let low = h.1 in
    let f = served_found t i low (omega arith) w in
    rw (turn_last t f.0 f.1.0, f.1.0)
    (⊎_elim
    (λ (q : f.0 ≡ i). rw (q, eq-eqb i i refl) (omega (arith, ahead_own i)))
    (λ (q : ahead f.0 i < ahead t.last i). omega arith)
    f.1.1)

waits : {i : ℕ} {job : List ℕ} {s : State} {own all : ℕ} → Since i job s own all → is_working (slot_at s i) ≡ true → all + ahead s.last i ≤ 8 * own + 7
waits {i = i} {s = s} (Since.at_posting t r k e z w) h = omega (arith, ahead_few s.last i)
waits {i = i} {job = job} {s = s} {own = own} {all = all} (Since.by_later t c m n h e full o a) w =
    let l = candidates (problem_of job) in
    let r = eight (since_reached h) in
    let few = (since_sound h).0 in
    let b = became t i r few c (standing_full job l m (slot_at t i) (stands h)) (ap (λ (x : State). is_empty (slot_at x i)) (sym e) ∙ full) in
    let v = was_working b (ap (λ (x : State). is_working (slot_at x i)) (sym e) ∙ w) in
    rw (o, a, e) (one_call t i m n c r few v (waits h v))
  where
    was_working : {t s : State} {i own : ℕ} → Became t s i own → is_working (slot_at s i) ≡ true → is_working (slot_at t i) ≡ true
    was_working (Became.stayed e z) w = ap is_working (sym e) ∙ w
    was_working (Became.had_turn v e z) w = v

-- 2. "and at most 8 × N overall, counted from its posting": while it works, fewer turns have passed
pub all_turns : {i : ℕ} {job : List ℕ} {s : State} {own all : ℕ} → Since i job s own all → is_working (slot_at s i) ≡ true → all < 8 * candidate_count job
all_turns {i = i} {job = job} {s = s} {own = own} h w =
    ⊎_elim
    (λ (p : (own < candidate_count job) × (slot_at s i ≡ working_after job own)). let k = p.0 in let q = waits h w in omega arith)
    (λ (p : (own ≡ candidate_count job) × (slot_at s i ≡ finished_with job)). absurd (true≢false (sym w ∙ ap is_working p.1)))
    (own_turns h)

-- so after so many turns it is finished
pub in_time : {i : ℕ} {job : List ℕ} {s : State} {own all : ℕ} → Since i job s own all → 8 * candidate_count job ≤ all → slot_at s i ≡ finished_with job
in_time {i = i} {job = job} {s = s} {own = own} h k =
    ⊎_elim
    (λ (p : (own < candidate_count job) × (slot_at s i ≡ working_after job own)). let q = all_turns h (ap is_working p.1) in absurd (omega arith))
    (λ (p : (own ≡ candidate_count job) × (slot_at s i ≡ finished_with job)). p.1)
    (own_turns h)

-- 3. "Others' jobs affect only the turn in which it comes": two histories that gave the job equally many turns leave its slot alike
pub alike : {i j : ℕ} {job : List ℕ} {s t : State} {own all others : ℕ} → Since i job s own all → Since j job t own others → slot_at s i ≡ slot_at t j
alike {i = i} {j = j} {job = job} {s = s} {t = t} {own = own} h k = by_stand (own_turns h) (own_turns k)
  where
    by_stand : Standing job own (slot_at s i) → Standing job own (slot_at t j) → slot_at s i ≡ slot_at t j
    by_stand (inl p) (inl q) = p.1 ∙ sym q.1
    by_stand (inr p) (inr q) = p.1 ∙ sym q.1
    by_stand (inl p) (inr q) = let a = p.0 in let b = q.0 in absurd (omega arith)
    by_stand (inr p) (inl q) = let a = p.0 in let b = q.0 in absurd (omega arith)

-- 4. "Its answer is the one it would get alone": a finished job's answer is what the search gives it, with any room, a 13 and a 14 included
pub as_searched : {i : ℕ} {job : List ℕ} {s : State} {own all : ℕ} → Since i job s own all → is_working (slot_at s i) ≡ false
    → (room : ℕ) → collect_of s i room ≡ search_of job room
unfolding collect_of collect_code search_of search_over search_code
as_searched {i = i} {job = job} {s = s} {own = own} h w room =
    let f = since_sound h in
    rw (done, le-leb i 7 f.0, f.1)
  where
    done : slot_at s i ≡ finished_with job
    done =
        ⊎_elim
        (λ (p : (own < candidate_count job) × (slot_at s i ≡ working_after job own)). absurd (true≢false (sym (ap is_working p.1) ∙ w)))
        (λ (p : (own ≡ candidate_count job) × (slot_at s i ≡ finished_with job)). p.1)
        (own_turns h)

-- 5. "Collecting, a 14 included, empties the desk"
emptied : (s : State) → Eight s → (i room : ℕ) → collect_code s i room ≡ 0 → slot_at (after_collect s i room) i ≡ empty
emptied s h i room e = vacated s i h (collect_parts s i room e).0 room e

-- no rule of collecting has the number 14
never_fourteen : (s : State) (i room : ℕ) → collect_code s i room ≡ 14 → ⊥
unfolding collect_code
never_fourteen s i room =
    rule_never 14 (leb i 7) 35 (rule (is_finished (slot_at s i)) 37 (rule (leb 15 room) 13 0)) (λ e. omega arith)
    (rule_never 14 (is_finished (slot_at s i)) 37 (rule (leb 15 room) 13 0) (λ e. omega arith) (rule_never 14 (leb 15 room) 13 0 (λ e. omega arith) (λ e. omega arith)))

module _ {s : State} (r : Reachable s) (i room : ℕ) where
  pub found_empties : (f : Found) → collect_of s i room ≡ answered f → slot_at (after_collect s i room) i ≡ empty
  found_empties f e = by_code (ℕ_discrete (collect_code s i room) 0)
    where
      by_code : Dec (collect_code s i room ≡ 0) → slot_at (after_collect s i room) i ≡ empty
      by_code (yes k) = emptied s (eight r) i room k
      by_code (no k) = absurd (answered_never f (collect_code s i room) (sym ((collect_refused s i room k).0 ∙ e)))

  pub none_empties : collect_of s i room ≡ refused 14 → slot_at (after_collect s i room) i ≡ empty
  none_empties e = by_code (ℕ_discrete (collect_code s i room) 0)
    where
      by_code : Dec (collect_code s i room ≡ 0) → slot_at (after_collect s i room) i ≡ empty
      by_code (yes k) = emptied s (eight r) i room k
      by_code (no k) =
          let q = (collect_refused s i room k).0 ∙ e in
          let z : collect_code s i room ≡ 14 = cc in
          absurd (never_fourteen s i room z)

-- 6. "every other refusal changes nothing, so a 13 leaves it finished"
pub collect_keeps : (s : State) (i room n : ℕ) → collect_of s i room ≡ refused n → (n ≡ 14 → ⊥) → after_collect s i room ≡ s
collect_keeps s i room n e k = by_code (ℕ_discrete (collect_code s i room) 0)
  where
    by_code : Dec (collect_code s i room ≡ 0) → after_collect s i room ≡ s
    by_code (no q) = sym (collect_refused s i room q).1
    by_code (yes q) = absurd (k (only_none (slot_at s i) (collect_parts s i room q).1.0 n (ap reported ((collect_done s i room q).0 ∙ e))))

pub post_keeps : (s : State) (i : ℕ) (job : List ℕ) (n : ℕ) → post_of s i job ≡ refused n → after_post s i job ≡ s
post_keeps s i job n e = by_code (ℕ_discrete (post_code s i job) 0)
  where
    by_code : Dec (post_code s i job ≡ 0) → after_post s i job ≡ s
    by_code (no q) = sym (post_refused s i job q).1
    by_code (yes q) = absurd (answered_never tt n ((post_accepted s i job q).0 ∙ e))
