-- Sequences of calls: the states that they make from the start, how many turns there were since a job was posted, and where its slot then
-- stands. The theorems of proofs/fairness/Promises.antt say document 02's promises with these. Read states/States.antt first.
use Rattle.std.specs.Prelude.{◌≡◌, Bool, true, false, not, ◌⊎◌, List, [], ◌∷◌, ℕ, suc, ◌+◌, ◌<◌, eqb, length, take, drop}
use Rattle.std.proofs.Math.Option.{Option, none, some}
use Rattle.logic.specs.Rules.{bit}
use Rattle.logic.specs.Lists.{along}
use Rattle.problem.specs.order.Choices.{improve}
use Rattle.problem.specs.Problems.{good, first_good}
use Rattle.outcomes.specs.Outcomes.{problem_of}
use Rattle.scheduler.specs.candidates.Candidates.{candidates}
use Rattle.scheduler.specs.slot.Slots.{Slot, working, finished, is_empty}
use Rattle.scheduler.specs.states.States.{State, start_state, slot_at, post_code, after_post, served_by, after_turn, after_collect}

-- the calls: a job posted to a slot, a turn, and a slot collected with so much room for the answer
pub data Call : Type 0 where
  posting : ℕ → List ℕ → Call
  turning : Call
  collecting : ℕ → ℕ → Call

abbrev pub after_call : State → Call → State
after_call s (posting i job) = after_post s i job
after_call s turning = after_turn s
after_call s (collecting i room) = after_collect s i room

-- "states made from that start by these calls alone"
pub data Reachable : State → Type 0 where
  at_start : {s : State} → s ≡ start_state → Reachable s
  by_call : {s : State} (t : State) (c : Call) → Reachable t → s ≡ after_call t c → Reachable s

-- whether a turn served slot i
abbrev pub is_for : ℕ → Option ℕ → Bool
is_for i none = false
is_for i (some j) = eqb j i

-- 1 for a turn of slot i's own, 0 for any other call
abbrev pub own_of : ℕ → State → Call → ℕ
own_of i s (posting j job) = 0
own_of i s turning = bit (is_for i (served_by s))
own_of i s (collecting j room) = 0

-- 1 for a turn of any slot, 0 for any other call
abbrev pub turn_of : Call → ℕ
turn_of (posting j job) = 0
turn_of turning = 1
turn_of (collecting j room) = 0

-- the job was posted to slot i and is not collected yet: the state now, its own turns since then, and all turns since then
pub data Since (i : ℕ) (job : List ℕ) : State → ℕ → ℕ → Type 0 where
  at_posting : {s : State} {own all : ℕ} (t : State) → Reachable t → post_code t i job ≡ 0 → s ≡ after_post t i job → own ≡ 0 → all ≡ 0
      → Since i job s own all
  by_later : {s : State} {own all : ℕ} (t : State) (c : Call) (m n : ℕ) → Since i job t m n → s ≡ after_call t c
      → is_empty (slot_at s i) ≡ false
      → own ≡ m + own_of i t c → all ≡ n + turn_of c → Since i job s own all

-- the state after some calls, from the first to the last
abbrev pub after_calls : State → List Call → State
after_calls s cs = along (λ (c : Call) (t : State). after_call t c) cs s

-- how many of some calls are turns
unfoldable pub turns_in : List Call → ℕ
turns_in [] = 0
turns_in (posting j job ∷ cs) = turns_in cs
turns_in (turning ∷ cs) = suc (turns_in cs)
turns_in (collecting j room ∷ cs) = turns_in cs

-- a call that does not collect slot i
abbrev pub leaves : ℕ → Call → Bool
leaves i (posting j job) = true
leaves i turning = true
leaves i (collecting j room) = not (eqb j i)

-- a history of `Since` as its calls: the state in which the job was posted, and all calls since then, of which `all` are turns
pub record CallsSince (i : ℕ) (job : List ℕ) (s : State) (all : ℕ) : Type 0 where
  pub given : State
  pub calls : List Call
  pub reached : Reachable given
  pub accepted : post_code given i job ≡ 0
  pub made : s ≡ after_calls (after_post given i job) calls
  pub counted : all ≡ turns_in calls

-- the number of a job's candidates, document 02's N
abbrev pub candidate_count : List ℕ → ℕ
candidate_count job = length (candidates (problem_of job))

-- the slot of a job after `own` turns of its own: so many candidates are tried, and the rest are left
abbrev pub working_after : List ℕ → ℕ → Slot
working_after job own =
    working job (drop own (candidates (problem_of job))) (improve (good (problem_of job)) none (take own (candidates (problem_of job))))

-- the slot once all candidates are tried
abbrev pub finished_with : List ℕ → Slot
finished_with job = finished job (first_good (problem_of job))

-- which of the two it is: it works until it had as many turns as there are candidates
abbrev pub Standing : List ℕ → ℕ → Slot → Type 0
Standing job own slot =
    ((own < candidate_count job) × (slot ≡ working_after job own)) ⊎ ((own ≡ candidate_count job) × (slot ≡ finished_with job))
