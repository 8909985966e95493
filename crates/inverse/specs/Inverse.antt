-- A full permutation and its inverse, as jobs.
use Rattle.std.specs.Prelude.{◌≡◌, true, List, ◌++◌, map, ℕ, ◌+◌, ◌-◌, ◌*◌, ◌^◌, ◌<◌, get_or, take}
use Rattle.logic.specs.Rules.{pick}
use Rattle.logic.specs.Lists.{numbers_from}
use Rattle.table.specs.Rows.{value_of, row_of}
use Rattle.record.specs.JobRules.{job_code}
use Rattle.record.specs.job_fields.Jobs.{longer, data_wires, ancillas, free_layout, gate_limit, cost_limit, depth_limit, prices, durations, rows}
use Rattle.parity.specs.Parity.{values, permutes}

-- "a full permutation .. in [a] well-formed [job] with m = 0, fixed placing"
pub record Permutation (job : List ℕ) : Type 0 where
  pub sound : job_code job ≡ 0
  pub permuting : permutes job ≡ true
  pub bare : ancillas job ≡ 0
  pub fixed : free_layout job ≡ 0

-- the value in row x of a job's table
abbrev pub value_at : List ℕ → ℕ → ℕ
value_at job x = value_of (get_or (rows job) x 0)

-- "a full permutation and its inverse, .. equal limits, prices and durations": the other table leads each value back to its row
pub record Inverse (job other : List ℕ) : Type 0 where
  pub this : Permutation job
  pub that : Permutation other
  pub same_data : data_wires job ≡ data_wires other
  pub same_size : longer job ≡ longer other
  pub same_gate_limit : gate_limit job ≡ gate_limit other
  pub same_cost_limit : cost_limit job ≡ cost_limit other
  pub same_depth_limit : depth_limit job ≡ depth_limit other
  pub same_prices : prices job ≡ prices other
  pub same_durations : durations job ≡ durations other
  pub undone : (x : ℕ) → x < 2 ^ data_wires job → value_at other (value_at job x) ≡ x

-- row v of the inverse table: the full mask, and the row of v in the table
abbrev pub inverse_row : List ℕ → ℕ → ℕ
inverse_row job v = 16 * (2 ^ data_wires job - 1) + row_of v (values job)

abbrev pub inverse_rows : List ℕ → List ℕ
inverse_rows job = map (inverse_row job) (numbers_from 0 (2 ^ data_wires job))

-- the job of the inverse table: the bytes before the table, then its rows
unfoldable pub inverse_job : List ℕ → List ℕ
inverse_job job = take (pick (longer job) 14 12) job ++ inverse_rows job
