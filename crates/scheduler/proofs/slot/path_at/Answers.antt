-- The first gates of the table are the job's.
use Prim.Native.Nat.{◌≤◌}
use Rattle.scheduler.proofs.slot.Counts.{shape}
use Rattle.scheduler.proofs.slot.path_at.Goals as goal
use Rattle.scheduler.proofs.slot.path_at.Goals.{After-wires-wires}

fits : (c : After-wires-wires)
    → ((2 ≤ c.most_controls-most.result) × (c.most_controls-most.result ≤ 3)) × ((3 ≤ c.wires-wires.result) × (c.wires-wires.result ≤ 5))
fits c =
    let h = shape c.args.job.now c.requires.job_value in
    (rw c.most_controls-most.ensures h.0, rw c.wires-wires.ensures.value h.1)

pub gate_count-count-requires : goal.gate_count-count-requires
gate_count-count-requires c = fits (goal.at.gate_count-count-requires c).After-wires-wires

pub gate_table-table-requires : goal.gate_table-table-requires
gate_table-table-requires c = fits (goal.at.gate_table-table-requires c).After-wires-wires
