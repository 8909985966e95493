-- A job too long to be sound is refused by its length, so its later bytes decide nothing.
use mathlib.Core.Path.{◌≡◌, ap, ◌∙◌}
use mathlib.Core.List.{List}
use Prim.Native.Nat.{ℕ, ◌<◌}
use native.Mathlib.Omega.{arith}
use lib.ListN.{length}
use Rattle.logic.proofs.Prefixes.{told_by}
use Rattle.record.specs.JobRules.{longest_job}
use Rattle.record.proofs.Long.{long_job}
use Rattle.record.specs.pair_codes.Codes.{search_code}
use Rattle.reports.specs.refusal.Report.{refused_text}
use Rattle.approximate.proofs.Answer.{by_code}
use Rattle.printed.specs.misses.Closeness.{closest_text, printed_closest, TellingClosest}

-- a job longer than any sound one
long_code : (job : List ℕ) → longest_job < length job → search_code job 15 ≡ 1
unfolding search_code
long_code job h = rw (long_job job h)

long_text : (job : List ℕ) → longest_job < length job → closest_text job ≡ refused_text 1
unfolding closest_text
long_text job h =
    let e = long_code job h in
    ap printed_closest (by_code job 15 (λ z. omega arith)) ∙ ap refused_text e

pub telling_closest : (room : ℕ) → longest_job < room → TellingClosest room
telling_closest room h = told_by closest_text (refused_text 1) longest_job long_text room h
