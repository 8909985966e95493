use Rattle.std.proofs.Common.{ap, ℕ, arith}
use Rattle.scheduler.specs.states.States.{served_by, next_working}
use Rattle.scheduler.specs.states.Calls.{view_state}
use Rattle.scheduler.proofs.states.Slots.next_working.Goals as goal

pub loop-step-init : goal.loop-step-init
unfolding view_state served_by
loop-step-init c = ap (λ (k : ℕ). next_working (view_state c.args.self.now).slots k 8) (omega arith)
