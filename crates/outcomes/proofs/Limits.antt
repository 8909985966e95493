-- Jobs whose cost limit rules out no list within the gate limit.
use mathlib.Core.Path.{◌≡◌}
use mathlib.Core.List.{List}
use Prim.Native.Nat.{ℕ, ◌≤◌}
use native.Mathlib.Omega.{arith}
use Rattle.problem.specs.Demand.{Roomy}
use Rattle.record.specs.JobRules.{job_code}
use Rattle.record.specs.job_fields.Jobs.{cost_limit, price_of, Bytes}
use Rattle.record.proofs.Kept.{sound_job}
use Rattle.record.proofs.job_fields.Small.{price_small, total_small}
use Rattle.outcomes.specs.Outcomes.{problem_over, problem_of}

-- a job of bytes with the greatest cost limit: twelve gates cost at most 3,060
pub roomy : (job : List ℕ) → Bytes job → job_code job ≡ 0 → 65535 ≤ cost_limit job → Roomy (problem_of job)
unfolding problem_over
roomy job small sound wide l few = omega (arith, total_small (price_of job) (price_small job small) l, (sound_job job sound).limit)
