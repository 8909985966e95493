use mathlib.Core.Path.{ap}
use lib.ListN.{replicate}
use Rattle.std.proofs.lemmas.List.Elements.{All-replicate}
use Rattle.scheduler.specs.slot.Slots.{Slot}
use Rattle.scheduler.specs.slot.View.{HeldShort}
use Rattle.scheduler.specs.states.Calls.{view_state}
use Rattle.scheduler.proofs.states.start.Goals as goal

pub returns-clause-state : goal.returns-clause-state
unfolding view_state
returns-clause-state c = ap (λ (x : Slot). record { slots = replicate 8 x; last = 7 }) c.vacant-state.ensures.slot

pub returns-clause-held_short : goal.returns-clause-held_short
returns-clause-held_short c = All-replicate HeldShort 8 c.vacant-state.result c.vacant-state.ensures.held_short
