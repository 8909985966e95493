-- What `gazbolk compare` prints for the bytes of two jobs.
use Rattle.std.specs.Prelude.{◌≡◌, List, ◌++◌, ℕ, ℤ, take}
use Rattle.logic.specs.Answers.{Answer, refused, answered}
use Rattle.printed.specs.job_line.Lines.{line_of}
use Rattle.reports.specs.refusal.Report.{refused_text}
use Rattle.sensitivity.specs.Calls.{price_change}
use Rattle.printed.specs.differences.Differences.{change_line}

-- the difference, and the line that `main` prints for each job; or a refusal and what it means
abbrev pub printed_change : Answer ℤ → List ℕ → List ℕ → List ℕ
printed_change (refused code) old new = refused_text code
printed_change (answered d) old new = change_line d ++ (line_of old ++ line_of new)

-- `gazbolk compare`
unfoldable pub compare_text : List ℕ → List ℕ → List ℕ
compare_text old new = printed_change (price_change old new) old new

-- the first `room` bytes of either job decide what is printed, however long they are
abbrev pub TellingPair : ℕ → Type 0
TellingPair room = (old new : List ℕ) → compare_text (take room old) (take room new) ≡ compare_text old new
