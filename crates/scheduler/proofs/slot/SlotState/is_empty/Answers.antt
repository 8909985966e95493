use Rattle.std.proofs.Common.{sym, ap, ◌∙◌}
use Rattle.scheduler.specs.declared.slot.Stage.{Stage}
use Rattle.scheduler.specs.slot.Slots.{is_empty}
use Rattle.scheduler.proofs.slot.Slots.{seen, not_empty}
use Rattle.scheduler.proofs.slot.SlotState.is_empty.Goals as goal

pub returns-in-Empty : goal.returns-in-Empty
returns-in-Empty c = sym (ap is_empty (seen c.args.self.now Stage.Empty (sym c.shown.ensures ∙ c.in-Empty.is)))

pub returns-in_default : goal.returns-in_default
returns-in_default c = not_empty c.args.self.now c.shown.result c.shown.ensures c.in_default.not-Empty
