-- No slot working, or one that is served.
use Rattle.std.proofs.Common.{◌≡◌, ◌<◌, get_or, length, rules, arith}
use Rattle.std.proofs.lemmas.List.Elements.{All-set, All-get_or}
use Rattle.scheduler.specs.declared.slot.SlotState.{SlotState}
use Rattle.scheduler.specs.slot.View.{HeldShort, view_slot}
use Rattle.scheduler.specs.states.States.{slot_at}
use Rattle.scheduler.specs.states.Calls.{view_state}
use Rattle.scheduler.proofs.states.Serving.{turn_idle, turn_served}
use Rattle.scheduler.proofs.states.Views.{slot_in, changed, mapped_length}
use Rattle.scheduler.proofs.states.Slots.turn.Goals as goal
use Rattle.scheduler.proofs.states.Slots.turn.Goals.{Start}

long : (s : Start) → length s.args.self.now.states ≡ 8
long s = search (rules, mapped_length)

-- the slot that is served
served_slot : (s : Start) (i : _) → i < 8 → (d : SlotState) → view_slot (get_or s.args.self.now.states i d) ≡ slot_at (view_state s.args.self.now) i
served_slot s i h d = let l = long s in slot_in s.args.self.now i d (omega arith)

pub returns-in_err-i-clause-slots_value_2 : goal.returns-in_err-i-clause-slots_value_2
returns-in_err-i-clause-slots_value_2 c = turn_idle (view_state c.args.self.now) c.in_err-i.ensures.value

pub returns-clause-slots_value_2 : goal.returns-clause-slots_value_2
returns-clause-slots_value_2 c =
    turn_served (view_state c.args.self.now) c.in_ok-i.i _ _ _ c.in_ok-i.ensures.value
    (served_slot (goal.at.returns-clause-slots_value_2 c).Start c.in_ok-i.i c.in_ok-i.ensures.upper_bound _)
    c.serve.ensures.slot
    (changed c.args.self.now c.in_ok-i.i _ c.in_ok-i.i)

pub returns-clause-held_short : goal.returns-clause-held_short
returns-clause-held_short c =
    let l = long (goal.at.returns-clause-held_short c).Start in
    let b = c.in_ok-i.ensures.upper_bound in
    λ h. All-set HeldShort c.args.self.now.states c.in_ok-i.i _
    (c.serve.ensures.held_short (All-get_or HeldShort c.args.self.now.states c.in_ok-i.i _ (omega arith) h)) h
