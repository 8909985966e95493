-- What `gazbolk batch` prints for the bytes of a file, in parts: each is printed as soon as it is known.
use Rattle.std.specs.Prelude.{◌≡◌, List, [], ◌∷◌, map, ℕ, get_or, take}
use Rattle.logic.specs.Rules.{pick}
use Rattle.batch.specs.cutting.Records.{records_of, all_cut}
use Rattle.printed.specs.job_line.Lines.{line_of}
use Rattle.reports.specs.refusal.Report.{refused_text}

-- for each job the line that `main` prints for it alone; or one refusal, where the file cannot be cut into records
unfoldable pub batch_parts : List ℕ → List (List ℕ)
batch_parts jobs = pick (all_cut jobs) (map line_of (records_of jobs)) (refused_text 26 ∷ [])

-- part i, counted from 0
abbrev pub part_at : List ℕ → ℕ → List ℕ
part_at jobs i = get_or (batch_parts jobs) i []

-- the first `room` bytes of a batch decide what is printed, however long it is
abbrev pub TellingBatch : ℕ → Type 0
TellingBatch room = (jobs : List ℕ) → batch_parts (take room jobs) ≡ batch_parts jobs
