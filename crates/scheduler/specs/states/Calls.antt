-- What the code's struct `Slots` stands for, a state of states/States.antt; and what a turn answers.
use Rattle.std.specs.Prelude.{map, ℕ, ◌%◌, Option, Some, None}
use Rattle.std.proofs.Math.Option as maybe
use Rattle.std.specs.List.{All}
use Rattle.scheduler.specs.slot.View.{HeldShort, view_slot}
use Rattle.scheduler.specs.declared.states.Slots.{Slots}
use Rattle.scheduler.specs.states.States.{State}

-- every value of the struct stands for a state, also one that no call made
unfoldable pub view_state : Slots → State
view_state s = record { slots = map view_slot s.states; last = s.last % 8 }

-- each slot keeps a circuit of at most twelve gates, or none
abbrev pub AllHeldShort : Slots → Type 0
AllHeldShort s = All HeldShort s.states

-- the slot that a turn served, if any
abbrev pub service_answer : Option ℕ → maybe.Option ℕ
service_answer (Some i) = maybe.some i
service_answer None = maybe.none
