-- The line that `main` prints for a job.
use Rattle.std.specs.Prelude.{◌≡◌, List, ℕ, take}
use Rattle.logic.specs.Answers.{Answer, refused, answered}
use Rattle.text.specs.pieces.Text.{refused_line, found_line}
use Rattle.outcomes.specs.Outcomes.{Found, search_of}

-- "`refused` and the number, or `found`, gates, cost, depth and the record in upper-case hexadecimal"
abbrev pub line_for : Answer Found → List ℕ
line_for (refused code) = refused_line code
line_for (answered f) = found_line f.measures f.bytes

-- the line of a job's bytes
unfoldable pub line_of : List ℕ → List ℕ
line_of job = line_for (search_of job 15)

-- the first `room` bytes of an input decide its line, however long it is
abbrev pub Telling : ℕ → Type 0
Telling room = (input : List ℕ) → line_of (take room input) ≡ line_of input
