-- What a private function says of the text. No public contract cites this.
use Rattle.std.specs.Prelude.{◌≡◌, false, List, ℕ, ◌≤◌, ◌<◌, take, Result, Ok, Err}
use Rattle.logic.specs.Answers.{Answer, refused, answered}
use Rattle.table.specs.layouts.Layouts.{plain}
use Rattle.record.specs.Answers.{number}
use Rattle.record.specs.circuit_fields.Circuits.{circuit_bytes}
use Rattle.record.specs.declared.refusal.Refusal.{Refusal}
use Rattle.revlib_reader.specs.declared.Circuit.{Circuit}

-- the circuit that the text says, or the refusal
abbrev pub CircuitIs : Answer (List ℕ) → Result Circuit Refusal → Type 0
CircuitIs outcome (Err r) = outcome ≡ refused (number r)
CircuitIs outcome (Ok c) =
    ((c.n < 8) × (c.m < 4))
    × ((c.count ≤ 12) × (outcome ≡ answered (circuit_bytes c.n c.m false (plain c.n) (take c.count c.gates))))
