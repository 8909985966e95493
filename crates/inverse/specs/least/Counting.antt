-- Counting jobs: full permutations of three wires that no limit but the one on gates restricts.
use Rattle.std.specs.Prelude.{◌≡◌, List, ℕ}
use Rattle.record.specs.job_fields.Jobs.{data_wires, cost_limit, depth_limit, Bytes}
use Rattle.inverse.specs.Inverse.{Permutation}

-- "A well-formed job with n = 3, m = 0, a full permutation, fixed placing and both other limits at 65,535": of 20 bytes or of 22. That its
-- "prices are all 1" is not asked: at any prices twelve gates cost at most 3,060.
pub record Counting (job : List ℕ) : Type 0 where
  pub bytes : Bytes job
  pub permutation : Permutation job
  pub three : data_wires job ≡ 3
  pub any_cost : cost_limit job ≡ 65535
  pub any_depth : depth_limit job ≡ 65535
