-- No job has more bytes than `longest_job`, and one byte more is enough to see that there are too many: bytes after it decide nothing.
use mathlib.Core.Path.{◌≡◌, refl}
use mathlib.Core.Bool.{Bool, true, false}
use mathlib.Core.List.{List}
use Prim.Native.Nat.{ℕ, suc, ◌≤◌, ◌<◌}
use native.Mathlib.Omega.{arith}
use borrow.Author.Tests.{leb-true, leb-false, ne_eqb}
use lib.Dec.{leb}
use lib.ListN.{length, take}
use Rattle.logic.proofs.Prefixes.{told_by}
use Rattle.record.specs.JobRules.{job_length_ok, longest_job, job_code}
use Rattle.record.specs.job_fields.Jobs.{longer}

-- bytes that are longer than every job are refused with 1, whatever they are
pub long_job : (job : List ℕ) → longest_job < length job → job_code job ≡ 1
unfolding job_code job_length_ok longer
long_job job h =
    rw (
      ne_eqb (length job) 20 (λ e. omega arith),
      ne_eqb (length job) 28 (λ e. omega arith),
      ne_eqb (length job) 22 (λ e. omega arith),
      ne_eqb (length job) 30 (λ e. omega arith),
    )

-- a well-formed job has at most so many bytes
pub job_short : (job : List ℕ) → job_code job ≡ 0 → length job ≤ longest_job
job_short job sound = by_length (leb (length job) longest_job) refl
  where
    by_length : (t : Bool) → leb (length job) longest_job ≡ t → length job ≤ longest_job
    by_length true e = leb-true (length job) longest_job e
    by_length false e = absurd (omega (arith, long_job job (leb-false (length job) longest_job e)))

-- one byte more than the longest job has decides the code, whatever comes after it
pub cut_job : (job : List ℕ) → job_code (take (suc longest_job) job) ≡ job_code job
cut_job = told_by job_code 1 longest_job long_job (suc longest_job) (omega arith)
