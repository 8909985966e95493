-- The refusal codes of running, measuring and searching: document 01's number of the first rule broken, or 0.
use Rattle.std.specs.Prelude.{Bool, List, ℕ, ◌^◌, ltb, leb, eqb}
use Rattle.logic.specs.Rules.{both, implies, rule, and_then}
use Rattle.record.specs.JobRules.{job_code}
use Rattle.record.specs.job_fields.Jobs.{longer, data_wires, ancillas, wires}
use Rattle.record.specs.circuit_rules.CircuitRules.{circuit_code}
use Rattle.record.specs.circuit_fields.Circuits.{marked}

-- running: the circuit's checks, then "is the value below 2^W? If not, 20."
unfoldable pub run_code : List ℕ → ℕ → ℕ
run_code c v = and_then (circuit_code c) (rule (ltb v (2 ^ wires c)) 20 0)

-- "same n and m? If not, 12."
unfoldable pub same_wires : List ℕ → List ℕ → Bool
same_wires job c = both (eqb (data_wires job) (data_wires c)) (eqb (ancillas job) (ancillas c))

-- "28 in judging and measuring, a marked circuit under a shorter job, directly after 12"
unfoldable pub mark_fits : List ℕ → List ℕ → Bool
mark_fits job c = implies (marked c) (longer job)

-- the checks of a circuit for a job: "the circuit's, then 12", then 28
unfoldable pub circuit_code_for : List ℕ → List ℕ → ℕ
circuit_code_for job c = and_then (circuit_code c) (rule (same_wires job c) 12 (rule (mark_fits job c) 28 0))

-- measuring: "the job's checks", then those of the circuit for it
unfoldable pub measure_code : List ℕ → List ℕ → ℕ
measure_code job c = and_then (job_code job) (circuit_code_for job c)

-- searching, "after the job's checks: is the answer buffer at least 15 bytes? If not, 13."
unfoldable pub search_code : List ℕ → ℕ → ℕ
search_code job room = and_then (job_code job) (rule (leb 15 room) 13 0)
