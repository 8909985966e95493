use mathlib.Core.Path.{refl, sym, subst}
use lib.ListN.{replicate}
use Rattle.scheduler.specs.states.States.{State}
use Rattle.slots.specs.Work.{Kept}
use Rattle.slots.proofs.Keeping.{kept_start}
use Rattle.slots.proofs.run_jobs.Goals as goal

pub loop-step-init : goal.loop-step-init
loop-step-init g c = (
  (c.cut_off-cut.ensures.count_value, c.cut_off-cut.ensures.count_bound),
  subst (λ (t : State). Kept c.args.jobs.now (replicate 8 0) t) (sym c.start-slots.ensures.state) (kept_start _ _ refl),
)
