-- A rule broken, and nothing changes; or the slot's answer is told and the slot emptied.
use Rattle.std.proofs.Common.{◌≡◌, sym, ap, ◌∙◌, ◌<◌, get_or, length, rules, arith}
use Rattle.std.proofs.lemmas.List.Elements.{All-set}
use Rattle.logic.specs.Answers.{Answer}
use Rattle.outcomes.specs.Outcomes.{Found, reported, written}
use Rattle.scheduler.specs.declared.slot.SlotState.{SlotState}
use Rattle.scheduler.specs.slot.Slots.{Slot, is_finished, result_of}
use Rattle.scheduler.specs.slot.View.{HeldShort, view_slot}
use Rattle.scheduler.specs.states.States.{slot_at, with_slot}
use Rattle.scheduler.specs.states.Calls.{view_state}
use Rattle.scheduler.proofs.states.Rules.{only_none, collect_by, collect_done}
use Rattle.scheduler.proofs.states.Views.{slot_in, changed, mapped_length}
use Rattle.scheduler.proofs.states.Slots.collect.Goals as goal
use Rattle.scheduler.proofs.states.Slots.collect.Goals.{Start}

pub returns-in_err-check_collect-clause-answer_value : goal.returns-in_err-check_collect-clause-answer_value
returns-in_err-check_collect-clause-answer_value c =
    let r = collect_by (view_state c.args.self.now) c.args.which _ (length c.args.answer.now) c.in_err-check_collect.ensures.value in
    let q = ap reported r.0 in
    search rules

pub returns-in_err-check_collect-clause-slots_value : goal.returns-in_err-check_collect-clause-slots_value
returns-in_err-check_collect-clause-slots_value c = (collect_by (view_state c.args.self.now) c.args.which _ (length c.args.answer.now) c.in_err-check_collect.ensures.value).1

pub returns-in_err-check_collect-clause-answer_after : goal.returns-in_err-check_collect-clause-answer_after
returns-in_err-check_collect-clause-answer_after c =
    let r = collect_by (view_state c.args.self.now) c.args.which _ (length c.args.answer.now) c.in_err-check_collect.ensures.value in
    ap (λ (o : Answer Found). written o c.args.answer.now) r.0

-- the slot that is told of
told_slot : (s : Start) → s.args.which < 8 → (d : SlotState) → view_slot (get_or s.args.self.now.states s.args.which d) ≡ slot_at (view_state s.args.self.now) s.args.which
told_slot s h d = let l : length s.args.self.now.states ≡ 8 = search (rules, mapped_length) in slot_in s.args.self.now s.args.which d (omega arith)

pub tell-told-requires-clause-state_value : goal.tell-told-requires-clause-state_value
tell-told-requires-clause-state_value c =
    ap is_finished (told_slot (goal.at.tell-told-requires-clause-state_value c).Start c.in_ok-check_collect.ensures.inside _)
    ∙ c.in_ok-check_collect.ensures.finished

pub returns-clause-answer_value : goal.returns-clause-answer_value
returns-clause-answer_value c =
    let h = told_slot (goal.at.returns-clause-answer_value c).Start c.in_ok-check_collect.ensures.inside _ in
    c.tell-told.ensures.result_value ∙ ap (λ (x : Slot). reported (result_of x)) h
    ∙ ap reported (collect_done (view_state c.args.self.now) c.args.which (length c.args.answer.now) (sym c.in_ok-check_collect.ensures.value)).0

pub returns-clause-by_index : goal.returns-clause-by_index
returns-clause-by_index c =
    let h = told_slot (goal.at.returns-clause-by_index c).Start c.in_ok-check_collect.ensures.inside _ in
    λ n e k.
    absurd
    (k
    (only_none (slot_at (view_state c.args.self.now) c.args.which) c.in_ok-check_collect.ensures.finished n
    (sym (c.tell-told.ensures.result_value ∙ ap (λ (x : Slot). reported (result_of x)) h) ∙ e)))

pub returns-clause-slots_value : goal.returns-clause-slots_value
unfolding view_state
returns-clause-slots_value c =
    let v = view_state c.args.self.now in
    changed c.args.self.now c.args.which c.vacant.result c.args.self.now.last
    ∙ ap (λ (x : Slot). with_slot v c.args.which x v.last) c.vacant.ensures.slot
    ∙ (collect_done v c.args.which (length c.args.answer.now) (sym c.in_ok-check_collect.ensures.value)).1

pub returns-clause-held_short : goal.returns-clause-held_short
returns-clause-held_short c = λ h. All-set HeldShort c.args.self.now.states c.args.which c.vacant.result c.vacant.ensures.held_short h

pub returns-clause-answer_after : goal.returns-clause-answer_after
returns-clause-answer_after c =
    let h = told_slot (goal.at.returns-clause-answer_after c).Start c.in_ok-check_collect.ensures.inside _ in
    c.tell-told.ensures.answer_after ∙ ap (λ (x : Slot). written (result_of x) c.args.answer.now) h
    ∙ ap (λ (o : Answer Found). written o c.args.answer.now)
    (collect_done (view_state c.args.self.now) c.args.which (length c.args.answer.now) (sym c.in_ok-check_collect.ensures.value)).0
