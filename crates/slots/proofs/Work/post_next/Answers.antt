-- A job that is accepted is tied to its slot; a refusal changes neither slots nor owners.
use Rattle.std.proofs.Common.{sym, subst, set}
use Rattle.scheduler.specs.states.States.{State}
use Rattle.scheduler.specs.states.Calls.{view_state}
use Rattle.slots.specs.Work.{Kept}
use Rattle.slots.proofs.Keeping.{accepted_code, kept_post}
use Rattle.slots.proofs.Work.post_next.Goals as goal

pub returns-in-Ok : goal.returns-in-Ok
returns-in-Ok g c k =
    let code = accepted_code (view_state c.args.self.now.slots) c.args.self.now.free _ c.in-Ok.ensures.answer_value in
    subst (λ (x : State). Kept c.args.jobs.now (set c.args.self.now.owners c.args.self.now.free c.args.self.now.next) x) (sym c.in-Ok.ensures.slots_value)
    (kept_post k c.args.self.now.free c.args.self.now.next _ c.record_at-place.ensures.jobs_value code)
