-- An instance: the exchange of wires 0 and 1 at prices 1, in 20 bytes and in 22.
use mathlib.Core.Path.{refl}
use mathlib.Core.List.{List, [], ◌∷◌, ◌++◌, map}
use Prim.Native.Nat.{ℕ, ◌+◌}
use Rattle.logic.specs.Lists.{all_of}
use Rattle.table.specs.Rows.{row_ok}
use Rattle.record.specs.job_fields.Jobs.{longer, data_wires, ancillas, free_layout, gate_limit, cost_limit, depth_limit, durations}
use Rattle.record.proofs.job_fields.Small.{bytes_of}
use Rattle.record.specs.JobRules.{job_length_ok, size_ok, head_ok, limit_ok, durations_ok, rows_ok, job_code}
use Rattle.parity.specs.Parity.{full, distinct, permutes}
use Rattle.inverse.specs.least.Counting.{Counting}

-- three data wires, fixed layout, gate limit 2, limits 65,535; these prices and durations; every bit of the exchange wanted
exchange_at : List ℕ → List ℕ
exchange_at weights = 96 ∷ 2 ∷ 255 ∷ 255 ∷ 255 ∷ 255 ∷ (weights ++ map (λ v. 112 + v) (0 ∷ 2 ∷ 1 ∷ 3 ∷ 4 ∷ 6 ∷ 5 ∷ 7 ∷ []))

pub shorter_job : List ℕ
shorter_job = exchange_at (1 ∷ 1 ∷ 1 ∷ 1 ∷ 1 ∷ 7 ∷ [])

pub longer_job : List ℕ
longer_job = exchange_at (1 ∷ 1 ∷ 1 ∷ 1 ∷ 1 ∷ 1 ∷ 7 ∷ 11 ∷ [])

pub shorter_counting : Counting shorter_job
unfolding shorter_job exchange_at job_code job_length_ok size_ok head_ok limit_ok durations_ok rows_ok row_ok longer data_wires ancillas free_layout gate_limit cost_limit
    depth_limit durations permutes full distinct all_of
shorter_counting = record {
  bytes = bytes_of shorter_job refl;
  permutation = record { sound = refl; permuting = refl; bare = refl; fixed = refl };
  three = refl;
  any_cost = refl;
  any_depth = refl;
}

pub longer_counting : Counting longer_job
unfolding longer_job exchange_at job_code job_length_ok size_ok head_ok limit_ok durations_ok rows_ok row_ok longer data_wires ancillas free_layout gate_limit cost_limit
    depth_limit durations permutes full distinct all_of
longer_counting = record {
  bytes = bytes_of longer_job refl;
  permutation = record { sound = refl; permuting = refl; bare = refl; fixed = refl };
  three = refl;
  any_cost = refl;
  any_depth = refl;
}
