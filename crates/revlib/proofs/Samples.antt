-- Sample texts of each shape, departures from the form, and a text written.
use mathlib.Core.Path.{◌≡◌, refl}
use mathlib.Core.List.{List, [], ◌∷◌, ◌++◌}
use Prim.Native.Nat.{ℕ, zero, suc}
use lib.Count.{ones, ones_in, count_trailing_zeros, count_leading_zeros}
use Rattle.logic.specs.Lists.{all_of}
use Rattle.logic.specs.Answers.{refused, answered}
use Rattle.gate.specs.Gates.{gate_of}
use Rattle.record.specs.job_fields.Jobs.{data_wires, ancillas, wires}
use Rattle.record.specs.circuit_fields.Circuits.{circuit_bytes}
use Rattle.revlib.specs.Grammar.{spaced, numvars_line, variables_line, constants_line, constants_word, heading, gate_line, body, render}
use Rattle.logic.specs.Words.{bytes}
use Rattle.revlib.specs.Grammar.{is_in, different, lower_case, data_count, heading_ok, line_ok, wire_of, gate_byte, record_of}
use Rattle.revlib.specs.Reading.{starts, announced, line_at, line_here, end_here, lines_at, names_at, constants_at, constants_in, heading_here, rest_of, parse, read_of}
use Rattle.revlib.specs.Writing.{line_for, letters_for, constants_for, describe, text_of}

abbrev times : ℕ → List ℕ → List ℕ
times zero l = []
times (suc n) l = l ++ times n l

abbrev front : List ℕ
front = bytes ".version 2.0\n.numvars 3\n.variables a b c\n.begin\n"

-- gates in order, target last, controls in any order
gates_read : read_of (front ++ bytes "t1 a\nt3 b a c\nt2 c a\n.end\n") 15 ≡ answered (0x60 ∷ 0x18 ∷ 3 ∷ 0x00 ∷ 0x43 ∷ 0x04 ∷ [])
unfolding all_of circuit_bytes spaced numvars_line variables_line constants_line constants_word heading gate_line is_in different lower_case
    data_count heading_ok line_ok wire_of gate_byte record_of starts announced line_at line_here end_here lines_at names_at constants_at constants_in
    heading_here rest_of parse read_of
gates_read = refl

-- the headings: four data wires with and without `.constants`, and one ancilla beside three and beside four
headings_read : (read_of (bytes ".version 2.0\n.numvars 4\n.variables q r s t\n.begin\n.end\n") 15 ≡ answered (0x80 ∷ 0x1B ∷ 0 ∷ []))
    × ((read_of (bytes ".version 2.0\n.numvars 4\n.variables q r s t\n.constants ----\n.begin\n.end\n") 15 ≡ answered (0x80 ∷ 0x1B ∷ 0 ∷ []))
    × ((read_of (bytes ".version 2.0\n.numvars 4\n.variables q r s t\n.constants ---0\n.begin\n.end\n") 15 ≡ answered (0x68 ∷ 0x18 ∷ 0 ∷ []))
    × (read_of (bytes ".version 2.0\n.numvars 5\n.variables q r s t z\n.constants ----0\n.begin\nt1 z\n.end\n") 15 ≡ answered (0x88 ∷ 0x1B ∷ 1 ∷ 0x80 ∷ []))))
unfolding all_of circuit_bytes spaced numvars_line variables_line constants_line constants_word heading gate_line is_in different lower_case
    data_count heading_ok line_ok wire_of gate_byte record_of starts announced line_at line_here end_here lines_at names_at constants_at constants_in
    heading_here rest_of parse read_of
headings_read = (refl, (refl, (refl, refl)))

-- departures: no last line feed, a repeated letter, four controls, five data wires, two ancillas, a carriage return, two spaces
departures : (read_of (front ++ bytes ".end") 15 ≡ refused 22)
    × ((read_of (front ++ bytes "t2 a a\n.end\n") 15 ≡ refused 22)
    × ((read_of (front ++ bytes "t4 a b c a\n.end\n") 15 ≡ refused 22)
    × ((read_of (bytes ".version 2.0\n.numvars 5\n.variables a b c d e\n.begin\n.end\n") 15 ≡ refused 22)
    × ((read_of (bytes ".version 2.0\n.numvars 5\n.variables a b c d e\n.constants ---00\n.begin\n.end\n") 15 ≡ refused 22)
    × ((read_of (front ++ bytes "t1 a\r\n.end\n") 15 ≡ refused 22) × (read_of (front ++ bytes "t1  a\n.end\n") 15 ≡ refused 22))))))
unfolding all_of circuit_bytes spaced numvars_line variables_line constants_line constants_word heading gate_line is_in different lower_case
    data_count heading_ok line_ok wire_of gate_byte record_of starts announced line_at line_here end_here lines_at names_at constants_at constants_in
    heading_here rest_of parse read_of
departures = (refl, (refl, (refl, (refl, (refl, (refl, refl))))))

-- twelve gates and thirteen, a departure after thirteen, and a buffer of 14 bytes
numbers : (read_of (front ++ (times 12 (bytes "t1 b\n") ++ bytes ".end\n")) 15 ≡ answered (0x60 ∷ 0x18 ∷ 12 ∷ times 12 (0x20 ∷ [])))
    × ((read_of (front ++ (times 13 (bytes "t1 b\n") ++ bytes ".end\n")) 15 ≡ refused 23)
    × ((read_of (front ++ (times 13 (bytes "t1 b\n") ++ bytes ".stop\n")) 15 ≡ refused 22) × (read_of (front ++ bytes ".stop\n") 14 ≡ refused 13)))
unfolding all_of circuit_bytes spaced numvars_line variables_line constants_line constants_word heading gate_line is_in different lower_case
    data_count heading_ok line_ok wire_of gate_byte record_of starts announced line_at line_here end_here lines_at names_at constants_at constants_in
    heading_here rest_of parse read_of
numbers = (refl, (refl, (refl, refl)))

-- a record's text
text_written : text_of (0x60 ∷ 0x18 ∷ 2 ∷ 0x00 ∷ 0x43 ∷ []) ≡ front ++ bytes "t1 a\nt3 a b c\n.end\n"
unfolding text_of describe render heading numvars_line variables_line constants_line spaced body gate_line line_for letters_for constants_for wires
    data_wires ancillas gate_of ones ones_in count_trailing_zeros count_leading_zeros
text_written = refl
