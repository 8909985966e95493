-- The test of one candidate as the code makes it, for private contracts. No public contract cites this.
use Rattle.std.specs.Prelude.{Bool, List, ℕ, leb}
use Rattle.logic.specs.Rules.{both}
use Rattle.table.specs.Rows.{realizes}
use Rattle.record.specs.job_fields.Jobs.{data_wires, rows, cost_limit, depth_limit}
use Rattle.circuit.specs.declared.measures.Measures.{Measures}

-- the list with the layout realizes the job's table, and these measures are within its limits
unfoldable pub does_for : List ℕ → List ℕ → ℕ → Measures → Bool
does_for job list p m =
    both (realizes (data_wires job) (rows job) p list) (both (leb m.cost (cost_limit job)) (leb m.depth (depth_limit job)))
