-- An input longer than every job is refused by its length, whatever follows.
use mathlib.Core.Path.{◌≡◌}
use mathlib.Core.List.{List}
use Prim.Native.Nat.{ℕ, ◌<◌}
use lib.ListN.{length}
use Rattle.logic.proofs.Prefixes.{told_by}
use Rattle.record.specs.JobRules.{longest_job}
use Rattle.record.proofs.Long.{long_job}
use Rattle.outcomes.specs.Outcomes.{search_over, search_of}
use Rattle.record.specs.pair_codes.Codes.{search_code}
use Rattle.text.specs.pieces.Text.{refused_line}
use Rattle.printed.specs.job_line.Lines.{line_of, Telling}

too_long : (job : List ℕ) → longest_job < length job → line_of job ≡ refused_line 1
unfolding line_of search_of search_over search_code
too_long job h = rw (long_job job h)

pub telling : (room : ℕ) → longest_job < room → Telling room
telling = told_by line_of (refused_line 1) longest_job too_long
