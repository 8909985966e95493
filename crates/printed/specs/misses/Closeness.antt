-- What `gazbolk closest` prints for the bytes of a job.
use Rattle.std.specs.Prelude.{◌≡◌, List, ◌++◌, ℕ, take}
use Rattle.logic.specs.Answers.{Answer, refused, answered}
use Rattle.logic.specs.Words.{bytes}
use Rattle.approximate.specs.Calls.{Close, closest_of}
use Rattle.text.specs.pieces.Text.{decimal, line_feed, found_line}
use Rattle.reports.specs.refusal.Report.{refused_text}

-- `misses NUMBER`
unfoldable pub misses_line : ℕ → List ℕ
misses_line k = bytes "misses " ++ (decimal k ++ line_feed)

-- how many wanted bits the circuit misses, and its line as `main` prints one; or a refusal and what it means
abbrev pub printed_closest : Answer Close → List ℕ
printed_closest (refused code) = refused_text code
printed_closest (answered c) = misses_line c.misses ++ found_line c.circuit.measures c.circuit.bytes

-- `gazbolk closest`
unfoldable pub closest_text : List ℕ → List ℕ
closest_text job = printed_closest (closest_of job 15)

-- the first `room` bytes of a job decide what is printed, however long it is
abbrev pub TellingClosest : ℕ → Type 0
TellingClosest room = (job : List ℕ) → closest_text (take room job) ≡ closest_text job
