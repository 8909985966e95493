use Rattle.std.proofs.Common.{sym, ap, ◌∙◌}
use Rattle.scheduler.specs.declared.slot.Stage.{Stage}
use Rattle.scheduler.specs.slot.Slots.{is_finished}
use Rattle.scheduler.proofs.slot.Slots.{seen, not_finished}
use Rattle.scheduler.proofs.slot.SlotState.is_finished.Goals as goal

pub returns-in-Finished : goal.returns-in-Finished
returns-in-Finished c = sym (ap is_finished (seen c.args.self.now Stage.Finished (sym c.shown.ensures ∙ c.in-Finished.is)))

pub returns-in_default : goal.returns-in_default
returns-in_default c = not_finished c.args.self.now c.shown.result c.shown.ensures c.in_default.not-Finished
