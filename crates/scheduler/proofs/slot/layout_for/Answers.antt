use mathlib.Core.Path.{sym, subst}
use Rattle.table.specs.layouts.Layouts.{Width}
use Rattle.record.proofs.Kept.{sound_job}
use Rattle.scheduler.proofs.slot.layout_for.Goals as goal

pub layout_at-requires : goal.layout_at-requires
layout_at-requires c = subst Width (sym c.data_wires.ensures.value) (sound_job c.args.job.now c.requires).width
