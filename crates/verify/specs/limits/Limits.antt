-- Whether the measures of a circuit are within a job's limits: the code of the first one exceeded, or 0.
use Rattle.std.specs.Prelude.{List, ℕ, leb}
use Rattle.logic.specs.Rules.{rule}
use Rattle.record.specs.job_fields.Jobs.{gate_limit, cost_limit, depth_limit}
use Rattle.circuit.specs.declared.measures.Measures.{Measures}

-- "Gates within the limit? If not, 17. Cost? If not, 18. Depth? If not, 19."
abbrev pub limit_rules : Measures → ℕ → ℕ → ℕ → ℕ
limit_rules m most_gates most_cost most_depth =
    rule (leb m.gates most_gates) 17
    (rule (leb m.cost most_cost) 18
    (rule (leb m.depth most_depth) 19 0))

unfoldable pub limits_code : List ℕ → Measures → ℕ
limits_code job m = limit_rules m (gate_limit job) (cost_limit job) (depth_limit job)
