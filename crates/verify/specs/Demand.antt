-- Demand 2's words on verifying, field by field: a circuit passes for a job exactly where all of these hold. And document 02's words on
-- ready times.
use Rattle.std.specs.Prelude.{◌≡◌, true, List, ℕ, ◌≤◌, length, get_or}
use Rattle.circuit.specs.Measure.{cost, depth, greatest}
use Rattle.table.specs.layouts.Layouts.{allowed}
use Rattle.table.specs.Rows.{realizes}
use Rattle.record.specs.JobRules.{job_code}
use Rattle.record.specs.job_fields.Jobs.{data_wires, ancillas, free_layout, gate_limit, cost_limit, depth_limit, price_of, duration_of, rows}
use Rattle.record.specs.circuit_rules.CircuitRules.{circuit_code}
use Rattle.record.specs.circuit_fields.Circuits.{layout_of, gates}
use Rattle.circuit.specs.declared.measures.Measures.{Measures}
use Rattle.circuit.specs.measures.Measures.{ready_of}
use Rattle.record.specs.pair_codes.Codes.{mark_fits}

-- what holds of a circuit that passes, at these prices and durations
pub record PassesAt (price duration : ℕ → ℕ) (job c : List ℕ) : Type 0 where
  -- "after the job's checks and then the circuit's"
  pub job_sound_law : job_code job ≡ 0
  pub circuit_sound_law : circuit_code c ≡ 0
  -- "same n and m"
  pub same_data : data_wires job ≡ data_wires c
  pub same_ancillas : ancillas job ≡ ancillas c
  -- no "marked circuit under a shorter job"
  pub mark_fits_law : mark_fits job c ≡ true
  -- "Placing allowed"
  pub laid_out : allowed (data_wires job) (free_layout job) (layout_of c) ≡ true
  -- "Table met", and the ancilla clean
  pub realized : realizes (data_wires job) (rows job) (layout_of c) (gates c) ≡ true
  -- "within all limits (each limit is itself allowed)"
  pub gates_within : length (gates c) ≤ gate_limit job
  pub cost_within : cost price (gates c) ≤ cost_limit job
  pub depth_within : depth duration (gates c) ≤ depth_limit job

-- at the job's own prices and durations
abbrev pub Passes : List ℕ → List ℕ → Type 0
Passes job c = PassesAt (price_of job) (duration_of job) job c

-- what holds of the ready times among the measures of a circuit of w wires
pub record Timed (w : ℕ) (m : Measures) : Type 0 where
  -- "depth is their greatest"
  pub greatest_ready : m.depth ≡ greatest (ready_of m)
  -- "0 for wires a circuit lacks"
  pub lacking : (i : ℕ) → w ≤ i → get_or (ready_of m) i 0 ≡ 0
