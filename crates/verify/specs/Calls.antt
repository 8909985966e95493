-- What measuring and verifying (document 01: judging) answer.
use Rattle.std.specs.Prelude.{List, ℕ}
use Rattle.logic.specs.Rules.{and_then, rule}
use Rattle.logic.specs.Answers.{Answer, answer_of}
use Rattle.record.specs.job_fields.Jobs.{price_of, duration_of, data_wires, free_layout, rows}
use Rattle.record.specs.circuit_fields.Circuits.{gates, layout_of}
use Rattle.circuit.specs.declared.measures.Measures.{Measures}
use Rattle.circuit.specs.measures.Measures.{measures_of}
use Rattle.record.specs.pair_codes.Codes.{measure_code}
use Rattle.circuit.specs.run.Run.{forwards}
use Rattle.table.specs.layouts.Layouts.{allowed}
use Rattle.table.specs.Rows.{agrees, clean}
use Rattle.verify.specs.limits.Limits.{limits_code}

-- the measures of a circuit at a job's prices and durations
abbrev pub measures_for : List ℕ → List ℕ → Measures
measures_for job c = measures_of (price_of job) (duration_of job) (gates c)

unfoldable pub measure_of : List ℕ → List ℕ → Answer Measures
measure_of job c = answer_of (measure_code job c) (measures_for job c)

-- "Placing allowed? If not, 15. Table met? If not, 16." The latter asks about the wanted bits alone. "24 in judging, ancilla not at 0,
-- directly after 16". Then the limits, for the circuit's measures
unfoldable pub verify_rest : List ℕ → List ℕ → Measures → ℕ
verify_rest job c m =
    rule (allowed (data_wires job) (free_layout job) (layout_of c)) 15
    (rule (agrees (layout_of c) (forwards (gates c)) (rows job)) 16
    (rule (clean (data_wires job) (forwards (gates c))) 24
    (limits_code job m)))

-- "after the job's checks and then the circuit's": the checks of measuring, then the rest
unfoldable pub verify_code : List ℕ → List ℕ → ℕ
verify_code job c = and_then (measure_code job c) (verify_rest job c (measures_for job c))

-- "A pass returns the three measures", and with them the ready times
unfoldable pub verify_of : List ℕ → List ℕ → Answer Measures
verify_of job c = answer_of (verify_code job c) (measures_for job c)
