-- The solver's task for a job, for the contract of `task_of`. No public contract cites this.
use Rattle.std.specs.Prelude.{List, ℕ}
use Rattle.record.specs.job_fields.Jobs.{most_controls, data_wires, free_layout, gate_limit, cost_limit, depth_limit, rows}
use Rattle.columns.specs.Wanted.{wanted_of}
use Rattle.walk.specs.declared.node.Task.{Task}

unfoldable pub task_of : List ℕ → Task
task_of job = record {
  wanted = wanted_of (rows job);
  outputs = data_wires job;
  free = free_layout job;
  controls = most_controls job;
  gate_limit = gate_limit job;
  cost_limit = cost_limit job;
  depth_limit = depth_limit job;
}
