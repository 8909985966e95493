use Rattle.std.proofs.Common.{sym, ap, ◌∙◌}
use Rattle.scheduler.specs.declared.slot.Stage.{Stage}
use Rattle.scheduler.specs.slot.Slots.{is_working}
use Rattle.scheduler.proofs.slot.Slots.{seen, not_working}
use Rattle.scheduler.proofs.slot.SlotState.is_working.Goals as goal

pub returns-in-Working : goal.returns-in-Working
returns-in-Working c = sym (ap is_working (seen c.args.self.now Stage.Working (sym c.shown.ensures ∙ c.in-Working.is)))

pub returns-in_default : goal.returns-in_default
returns-in_default c = not_working c.args.self.now c.shown.result c.shown.ensures c.in_default.not-Working
