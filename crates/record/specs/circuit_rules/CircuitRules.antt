-- The checks of a circuit record, in document 01's order with its refusal codes.
use Rattle.std.specs.Prelude.{Bool, List, ℕ, ◌-◌, ◌/◌, ◌%◌, leb, eqb, length, get_or}
use Rattle.logic.specs.Rules.{both, either, rule}
use Rattle.logic.specs.Lists.{all_of}
use Rattle.gate.specs.Gates.{lawful}
use Rattle.table.specs.layouts.Layouts.{layout_ok}
use Rattle.record.specs.job_fields.Jobs.{data_wires, ancillas, wires}
use Rattle.record.specs.circuit_fields.Circuits.{layout_of, count_byte, gates, controls_of}

-- "Is it 3 to 15 bytes long? If not, 7."
unfoldable pub circuit_length_ok : List ℕ → Bool
circuit_length_ok c = both (leb 3 (length c)) (leb (length c) 15)

-- "Is byte 0 in order (n 3 or 4, m 0 or 1, zeros)? If not, 8." The zeros are the two bits above the mark, which is the lowest bit
unfoldable pub shape_ok : List ℕ → Bool
shape_ok c = both (either (eqb (data_wires c) 3) (eqb (data_wires c) 4)) (both (leb (ancillas c) 1) (eqb (get_or c 0 0 / 2 % 4) 0))

-- "Is the placing in order? If not, 9."
abbrev pub layout_in_order : List ℕ → Bool
layout_in_order c = layout_ok (data_wires c) (layout_of c)

-- "Is the count byte the length less 3? If not, 10."
abbrev pub count_ok : List ℕ → Bool
count_ok c = eqb (count_byte c) (length c - 3)

-- "Is each gate lawful for W? If not, 21."
abbrev pub gates_ok : List ℕ → Bool
gates_ok c = all_of (lawful (controls_of c) (wires c)) (gates c)

-- the code of the first rule broken, or 0; the number 11 is reserved and unused (document 02, change request 9)
unfoldable pub circuit_code : List ℕ → ℕ
circuit_code c =
    rule (circuit_length_ok c) 7
    (rule (shape_ok c) 8
    (rule (layout_in_order c) 9
    (rule (count_ok c) 10
    (rule (gates_ok c) 21 0))))
