use Rattle.std.proofs.Common.{refl, arith}
use Rattle.scheduler.specs.slot.View.{held_len}
use Rattle.scheduler.proofs.slot.Slots.{none_there}
use Rattle.scheduler.proofs.slot.SlotState.vacant.Goals as goal

pub returns-clause-slot : goal.returns-clause-slot
returns-clause-slot c = none_there _ refl

pub returns-clause-held_short : goal.returns-clause-held_short
unfolding held_len
returns-clause-held_short c = omega arith
