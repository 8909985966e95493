-- A rule broken, or the slot filled.
use Rattle.std.proofs.Common.{sym, ap, ◌∙◌, rules}
use Rattle.std.proofs.lemmas.List.Elements.{All-set}
use Rattle.scheduler.specs.slot.Slots.{Slot}
use Rattle.scheduler.specs.slot.View.{HeldShort}
use Rattle.scheduler.specs.states.States.{with_slot}
use Rattle.scheduler.specs.states.Calls.{view_state}
use Rattle.scheduler.proofs.states.Rules.{post_by, post_accepted}
use Rattle.scheduler.proofs.states.Views.{changed}
use Rattle.scheduler.proofs.states.Slots.post.Goals as goal

pub returns-in_err-check_post-clause-answer_value : goal.returns-in_err-check_post-clause-answer_value
returns-in_err-check_post-clause-answer_value c =
    let r = post_by (view_state c.args.self.now) c.args.which _ c.args.job.now c.in_err-check_post.ensures.value in
    search rules

pub returns-in_err-check_post-clause-slots_value : goal.returns-in_err-check_post-clause-slots_value
returns-in_err-check_post-clause-slots_value c = (post_by (view_state c.args.self.now) c.args.which _ c.args.job.now c.in_err-check_post.ensures.value).1

pub returns-clause-answer_value : goal.returns-clause-answer_value
returns-clause-answer_value c = (post_accepted (view_state c.args.self.now) c.args.which c.args.job.now (sym c.in_ok-check_post.ensures.value)).0

pub returns-clause-slots_value : goal.returns-clause-slots_value
unfolding view_state
returns-clause-slots_value c =
    let v = view_state c.args.self.now in
    changed c.args.self.now c.args.which c.fresh.result c.args.self.now.last
    ∙ ap (λ (x : Slot). with_slot v c.args.which x v.last) c.fresh.ensures.slot
    ∙ (post_accepted v c.args.which c.args.job.now (sym c.in_ok-check_post.ensures.value)).1

pub returns-clause-held_short : goal.returns-clause-held_short
returns-clause-held_short c = λ h. All-set HeldShort c.args.self.now.states c.args.which c.fresh.result c.fresh.ensures.held_short h
