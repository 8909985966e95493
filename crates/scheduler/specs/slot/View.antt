-- What the code's struct `SlotState` stands for: a slot as slot/Slots.antt has it. Every value of the struct stands for a slot, also one
-- that no call made: where the fields do not fit one another, for an empty slot.
use Rattle.std.specs.Prelude.{Bool, List, ℕ, ◌≤◌, leb, eqb, take, Option, Some, None}
use Rattle.logic.specs.Rules.{both, pick}
use Rattle.record.specs.JobRules.{job_code}
use Rattle.problem.specs.order.View.{viewed, held_choice}
use Rattle.outcomes.specs.Outcomes.{problem_of}
use Rattle.scheduler.specs.candidates.Left.{left_at}
use Rattle.scheduler.specs.declared.slot.SlotState.{SlotState}
use Rattle.scheduler.specs.declared.slot.Stage.{Stage}
use Rattle.problem.specs.declared.order.Held.{Held}
use Rattle.scheduler.specs.slot.Slots.{Slot, empty, working, finished}

-- the bytes of its job
abbrev pub job_in : SlotState → List ℕ
job_in s = take s.size s.job

-- how many gates the circuit that it keeps has
unfoldable pub held_len : Option Held → ℕ
held_len None = 0
held_len (Some h) = h.len

-- that circuit, if there is one, has at most twelve gates; this holds of every state that only the calls made
abbrev pub HeldShort : SlotState → Type 0
HeldShort s = held_len s.best ≤ 12

-- its fields fit one another: its job is well-formed, and both its lists have at most twelve gates
unfoldable pub sound_of : SlotState → Bool
sound_of s = both (leb s.size 30) (both (eqb (job_code (job_in s)) 0) (both (leb s.at.len 12) (leb (held_len s.best) 12)))

-- 1 for a working slot, 2 for a finished one, anything else for an empty one
abbrev pub stage_said : ℕ → Stage
stage_said status = pick (eqb status 1) Stage.Working (pick (eqb status 2) Stage.Finished Stage.Empty)

-- its stage, where they do
unfoldable pub stage_of : SlotState → Stage
stage_of s = pick (sound_of s) (stage_said s.status) Stage.Empty

-- the candidates left to a working slot are those from its place on
abbrev pub view_stage : Stage → SlotState → Slot
view_stage Stage.Empty s = empty
view_stage Stage.Working s = working (job_in s) (left_at (problem_of (job_in s)) s.at) (viewed held_choice s.best)
view_stage Stage.Finished s = finished (job_in s) (viewed held_choice s.best)

unfoldable pub view_slot : SlotState → Slot
view_slot s = view_stage (stage_of s) s
