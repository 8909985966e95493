-- A turn keeps the tie between owners and slots, and the slot served is one of the eight.
use Rattle.std.proofs.Common.{sym, subst}
use Rattle.scheduler.specs.states.States.{State}
use Rattle.scheduler.specs.states.Calls.{view_state}
use Rattle.scheduler.proofs.states.Serving.{served_is}
use Rattle.slots.specs.Work.{Kept}
use Rattle.slots.proofs.Keeping.{kept_turn}
use Rattle.slots.proofs.Work.take_turn.Goals as goal

pub returns-in_default : goal.returns-in_default
returns-in_default g c jobs k = subst (λ (x : State). Kept jobs c.args.self.now.owners x) (sym c.turn.ensures.slots_value_2) (kept_turn k)

pub collect_served-requires : goal.collect_served-requires
collect_served-requires g c = (served_is (view_state c.args.self.now.slots) c.in-Some.i (sym c.in-Some.ensures.answer_value)).0

pub returns : goal.returns
returns g c jobs k =
    c.collect_served.ensures jobs (subst (λ (x : State). Kept jobs c.args.self.now.owners x) (sym c.turn.ensures.slots_value_2) (kept_turn k))
