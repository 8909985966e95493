-- Jobs that have no answer by parity, so that the solver need not run.
use Rattle.std.specs.Prelude.{Bool, List, ℕ, eqb}
use Rattle.logic.specs.Rules.{both}
use Rattle.record.specs.job_fields.Jobs.{most_controls, data_wires, ancillas}
use Rattle.parity.specs.Parity.{is_odd, table_parity}

-- an odd permutation of four data wires, without an ancilla, with gates of at most two controls
unfoldable pub always_none : List ℕ → Bool
always_none job = both (both (eqb (data_wires job) 4) (eqb (ancillas job) 0)) (both (eqb (most_controls job) 2) (is_odd (table_parity job)))
