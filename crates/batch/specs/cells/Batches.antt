-- What a batch answers, and what it leaves in the two buffers.
use Rattle.std.specs.Prelude.{Bool, List, [], ◌∷◌, ◌++◌, ℕ, ◌*◌, leb, eqb, length, take, drop}
use Rattle.logic.specs.Rules.{both, pick, rule}
use Rattle.logic.specs.Answers.{Answer, refused, answered, answer_of}
use Rattle.outcomes.specs.Outcomes.{Found, search_of, written}
use Rattle.batch.specs.cutting.Records.{records_of, count_of, all_cut}

-- "Each has a 15-byte answer cell and a status byte"
unfoldable pub room_ok : List ℕ → ℕ → ℕ → Bool
room_ok jobs answers statuses = both (leb (15 * count_of jobs) answers) (leb (count_of jobs) statuses)

-- "26, a record that can't be cut off so, or more than 64; 27, answer or status buffer too short; 26 comes first"; `answers` and `statuses`
-- are the lengths of the buffers
unfoldable pub batch_code : List ℕ → ℕ → ℕ → ℕ
batch_code jobs answers statuses = rule (all_cut jobs) 26 (rule (room_ok jobs answers statuses) 27 0)

-- "the number of jobs is returned"
unfoldable pub batch_of : List ℕ → ℕ → ℕ → Answer ℕ
batch_of jobs answers statuses = answer_of (batch_code jobs answers statuses) (count_of jobs)

-- what the single call makes of a job, with the room of a cell
abbrev pub alone_of : List ℕ → Answer Found
alone_of job = search_of job 15

-- "0, or the refusal it would get alone"
abbrev pub status_of : Answer Found → ℕ
status_of (refused code) = code
status_of (answered f) = 0

-- the answer buffer after these jobs: "Every cell ends as the single call would have left it"; "Bytes beyond the last cell .. are
-- untouched"
unfoldable pub cells_after : List (List ℕ) → List ℕ → List ℕ
cells_after [] answers = answers
cells_after (job ∷ jobs) answers = written (alone_of job) (take 15 answers) ++ cells_after jobs (drop 15 answers)

-- the status buffer after these jobs: "Bytes beyond the last cell and status byte are untouched"
unfoldable pub statuses_after : List (List ℕ) → List ℕ → List ℕ
statuses_after [] statuses = statuses
statuses_after (job ∷ jobs) statuses = status_of (alone_of job) ∷ statuses_after jobs (drop 1 statuses)

-- the two buffers at exit: 26 and 27 "both leave everything untouched"
unfoldable pub answers_left : List ℕ → List ℕ → List ℕ → List ℕ
answers_left jobs answers statuses =
    pick (eqb (batch_code jobs (length answers) (length statuses)) 0) (cells_after (records_of jobs) answers) answers

unfoldable pub statuses_left : List ℕ → List ℕ → List ℕ → List ℕ
statuses_left jobs answers statuses =
    pick (eqb (batch_code jobs (length answers) (length statuses)) 0) (statuses_after (records_of jobs) statuses) statuses

-- the answer cell of job i, counted from 0
abbrev pub cell_at : ℕ → List ℕ → List ℕ
cell_at i answers = take 15 (drop (15 * i) answers)
