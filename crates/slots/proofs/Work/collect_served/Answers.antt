-- Collecting keeps the tie between owners and slots.
use Rattle.std.proofs.Common.{sym, subst}
use Rattle.scheduler.specs.states.States.{State}
use Rattle.slots.specs.Work.{Kept}
use Rattle.slots.proofs.Keeping.{kept_collect}
use Rattle.slots.proofs.Work.collect_served.Goals as goal

pub returns-in_default : goal.returns-in_default
returns-in_default g c jobs k =
    subst (λ (t : State). Kept jobs c.args.self.now.owners t) (sym c.finished_line.ensures.slots_value) (kept_collect k c.args.which 15)

pub returns : goal.returns
returns g c jobs k =
    subst (λ (t : State). Kept jobs c.args.self.now.owners t) (sym c.finished_line.ensures.slots_value) (kept_collect k c.args.which 15)
