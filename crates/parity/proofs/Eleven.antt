-- Parity is never refused with 11.
use mathlib.Core.Path.{◌≡◌}
use mathlib.Core.List.{List}
use Prim.Native.Nat.{ℕ}
use Rattle.logic.specs.Answers.{refused}
use Rattle.logic.proofs.Answers.{refused_is}
use Rattle.record.specs.JobRules.{job_code}
use Rattle.record.proofs.Never.{job_never}
use Rattle.parity.specs.Parity.{table_parity, parity_of}

pub parity_never : (job : List ℕ) → parity_of job ≡ refused 11 → ⊥
unfolding parity_of
parity_never job h = job_never job (refused_is (job_code job) (table_parity job) 11 h)
