-- Eight slots and the slot served last, as callers see them, and what posting, a turn and collecting make of them (document 02). Read
-- slot/Slots.antt first.
use Rattle.std.specs.Prelude.{List, ℕ, zero, suc, ◌+◌, ◌%◌, leb, eqb, get_or, set, replicate}
use Rattle.std.proofs.Math.Option.{Option, none, some}
use Rattle.logic.specs.Rules.{pick, rule}
use Rattle.logic.specs.Answers.{Answer, refused, answer_of}
use Rattle.record.specs.JobRules.{job_code}
use Rattle.outcomes.specs.Outcomes.{Found}
use Rattle.scheduler.specs.slot.Slots.{Slot, empty, is_empty, is_working, is_finished, begun, tried, result_of}

pub record State : Type 0 where
  pub slots : List Slot
  pub last : ℕ

-- "at the start all desks are empty and 7 counts as last served"
abbrev pub start_state : State
start_state = record { slots = replicate 8 empty; last = 7 }

abbrev pub slot_at : State → ℕ → Slot
slot_at s i = get_or s.slots i empty

-- slot i replaced by x, and `last` as the slot served last
abbrev pub with_slot : State → ℕ → Slot → ℕ → State
with_slot s i x last = record { slots = set s.slots i x; last = last }

-- a refusal of posting: "35, desk above 7; 36, posting to a desk that is working or not yet collected, before the job's checks"; "35 is
-- first"
unfoldable pub post_code : State → ℕ → List ℕ → ℕ
post_code s i job = rule (leb i 7) 35 (rule (is_empty (slot_at s i)) 36 (job_code job))

unfoldable pub post_of : State → ℕ → List ℕ → Answer (Unit {0})
post_of s i job = answer_of (post_code s i job) tt

-- "every other refusal changes nothing"
unfoldable pub after_post : State → ℕ → List ℕ → State
after_post s i job = pick (eqb (post_code s i job) 0) (with_slot s i (begun job) s.last) s

-- "7 followed by 0"
abbrev pub following : ℕ → ℕ
following i = (i + 1) % 8

-- the first of the n slots after slot i that is working
unfoldable pub next_working : List Slot → ℕ → ℕ → Option ℕ
next_working slots i zero = none
next_working slots i (suc n) =
    pick (is_working (get_or slots (following i) empty)) (some (following i)) (next_working slots (following i) n)

-- "A turn goes to the next working desk after the last one served"
unfoldable pub served_by : State → Option ℕ
served_by s = next_working s.slots s.last 8

-- "A turn with no desk working changes nothing."
abbrev pub after_serving : State → Option ℕ → State
after_serving s none = s
after_serving s (some i) = with_slot s i (tried (slot_at s i)) i

unfoldable pub after_turn : State → State
after_turn s = after_serving s (served_by s)

-- a refusal of collecting: "37, collecting where nothing is finished, before 13; 35 is first"
unfoldable pub collect_code : State → ℕ → ℕ → ℕ
collect_code s i room = rule (leb i 7) 35 (rule (is_finished (slot_at s i)) 37 (rule (leb 15 room) 13 0))

-- where nothing is refused, the answer of the finished slot
unfoldable pub collect_of : State → ℕ → ℕ → Answer Found
collect_of s i room = pick (eqb (collect_code s i room) 0) (result_of (slot_at s i)) (refused (collect_code s i room))

-- "Collecting, a 14 included, empties the desk; every other refusal changes nothing, so a 13 leaves it finished."
unfoldable pub after_collect : State → ℕ → ℕ → State
after_collect s i room = pick (eqb (collect_code s i room) 0) (with_slot s i empty s.last) s
