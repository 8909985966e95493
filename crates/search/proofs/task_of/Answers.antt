use mathlib.Core.Path.{ap, ◌∙◌}
use Rattle.columns.specs.Wanted.{wanted_of}
use Rattle.search.specs.Inner.{task_of}
use Rattle.search.proofs.Posed.{rows_few}
use Rattle.search.proofs.task_of.Goals as goal

pub wanted_of-requires : goal.wanted_of-requires
wanted_of-requires c = rw c.table.ensures (rows_few c.args.job.now c.requires)

pub returns : goal.returns
unfolding task_of
returns c =
    let wanted = c.wanted_of.ensures ∙ ap wanted_of c.table.ensures in
    λ i. record {
      wanted = wanted i;
      outputs = c.data_wires.ensures.value i;
      free = c.free_layout.ensures i;
      controls = c.most_controls.ensures i;
      gate_limit = c.gate_limit.ensures i;
      cost_limit = c.cost_limit.ensures i;
      depth_limit = c.depth_limit.ensures i;
    }
