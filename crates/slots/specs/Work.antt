-- What `slots` keeps from step to step: which job of the file each slot works on.
use Rattle.std.specs.Prelude.{◌≡◌, false, List, ℕ, ◌<◌, length, get_or}
use Rattle.batch.specs.cutting.Records.{job_at}
use Rattle.scheduler.specs.slot.Slots.{is_empty}
use Rattle.scheduler.specs.states.States.{State, slot_at}
use Rattle.scheduler.specs.fairness.Histories.{Reachable, Since}

-- the job that slot i was given: its owner's number, counted from 0, among the jobs of the file
abbrev pub job_of : List ℕ → List ℕ → ℕ → List ℕ
job_of jobs owners i = job_at jobs (get_or owners i 0)

-- the calls made this state, and each slot that is not empty has worked on the job of its owner since that was posted
pub record Kept (jobs owners : List ℕ) (s : State) : Type 0 where
  pub eight : length owners ≡ 8
  pub reached : Reachable s
  pub owned : (i : ℕ) → i < 8 → is_empty (slot_at s i) ≡ false → (own : ℕ) × ((all : ℕ) × Since i (job_of jobs owners i) s own all)
