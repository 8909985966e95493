-- One slot as a caller sees it, and what a turn makes of it (document 02, whose word for a slot is desk). Read this first, then
-- states/States.antt.
use Rattle.std.specs.Prelude.{Bool, true, false, List, [], ◌∷◌, ℕ}
use Rattle.std.proofs.Math.Option.{Option, none}
use Rattle.logic.specs.Answers.{Answer, refused}
use Rattle.problem.specs.order.Choices.{Choice, attempt}
use Rattle.problem.specs.Problems.{good}
use Rattle.outcomes.specs.Outcomes.{problem_of, own_set, Found, outcome_of}
use Rattle.scheduler.specs.candidates.Candidates.{candidates}

-- empty; working on a job, with the candidates left to try and the best choice so far; or finished, with the best choice of all
pub data Slot : Type 0 where
  empty : Slot
  working : List ℕ → List Choice → Option Choice → Slot
  finished : List ℕ → Option Choice → Slot

abbrev pub is_empty : Slot → Bool
is_empty empty = true
is_empty (working job left held) = false
is_empty (finished job held) = false

abbrev pub is_working : Slot → Bool
is_working empty = false
is_working (working job left held) = true
is_working (finished job held) = false

abbrev pub is_finished : Slot → Bool
is_finished empty = false
is_finished (working job left held) = false
is_finished (finished job held) = true

-- a slot whose last candidate was tried is finished in that same turn
abbrev pub going : List ℕ → List Choice → Option Choice → Slot
going job [] held = finished job held
going job (c ∷ left) held = working job (c ∷ left) held

-- a job that was just posted has all its candidates left
unfoldable pub begun : List ℕ → Slot
begun job = going job (candidates (problem_of job)) none

-- a turn of its own "tries one candidate"
abbrev pub tried : Slot → Slot
tried empty = empty
tried (working job [] held) = working job [] held
tried (working job (c ∷ left) held) = going job left (attempt (good (problem_of job)) held c)
tried (finished job held) = finished job held

-- the answer of a finished slot: its best choice as the search would answer it, or 14. The other two cases only complete the function:
-- collecting asks a finished slot alone, and refuses by 37 before it asks any other.
abbrev pub result_of : Slot → Answer Found
result_of empty = refused 37
result_of (working job left held) = refused 37
result_of (finished job held) = outcome_of (own_set job) job held
