-- The slots are looked at one after the other. Invariant: the first working slot of those still to come is the first of all eight.
use Rattle.std.proofs.Common.{◌≡◌, ◌+◌, ◌-◌, ◌%◌}
use Rattle.scheduler.specs.states.States.{next_working, served_by}
use Rattle.scheduler.specs.states.Calls.{view_state}
use Rattle.scheduler.proofs.states.Slots.next_working.Given as goal

abbrev pub invariant-loop-step : goal.invariant-loop-step
invariant-loop-step l =
    next_working (view_state l.self).slots ((l.self.last % 8 + l.step) % 8) (8 - l.step) ≡ served_by (view_state l.self)
