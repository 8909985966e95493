-- Writing `.real` text, which no document asks for: the text of an unmarked circuit record with plain layout, and what the call answers.
use Rattle.std.specs.Prelude.{not, List, [], ◌∷◌, ◌++◌, map, ℕ, ◌+◌, eqb, leb, length}
use Rattle.logic.specs.Rules.{pick, rule, and_then}
use Rattle.logic.specs.Lists.{numbers_from}
use Rattle.gate.specs.declared.Kind.{Kind}
use Rattle.gate.specs.declared.Kind.TheVariants.{Not, Cnot, Toffoli, Cccnot}
use Rattle.gate.specs.Gates.{gate_of}
use Rattle.table.specs.layouts.Layouts.{plain}
use Rattle.text.specs.pieces.Text.{in_front}
use Rattle.record.specs.job_fields.Jobs.{data_wires, ancillas, wires}
use Rattle.record.specs.circuit_rules.CircuitRules.{circuit_code}
use Rattle.record.specs.circuit_fields.Circuits.{marked, layout_of, gates}
use Rattle.revlib.specs.Grammar.{Constants, unsaid, one_ancilla, Description, render}

-- wires are named a, b, c, .. in their order
abbrev pub letter : ℕ → ℕ
letter w = 97 + w

abbrev pub control_wires : Kind → List ℕ
control_wires Not = []
control_wires (Cnot a) = a ∷ []
control_wires (Toffoli a b) = a ∷ b ∷ []
control_wires (Cccnot a b c) = a ∷ b ∷ c ∷ []

-- the letters of a gate's line: its controls, then its target
unfoldable pub line_for : ℕ → List ℕ
line_for b = map letter (control_wires (gate_of b).kind ++ ((gate_of b).target ∷ []))

-- the letters of w wires
unfoldable pub letters_for : ℕ → List ℕ
letters_for w = numbers_from 97 w

-- there is a `.constants` line only where there is an ancilla
unfoldable pub constants_for : ℕ → Constants
constants_for m = pick (eqb m 1) one_ancilla unsaid

-- the description of a circuit record, and its text
unfoldable pub describe : List ℕ → Description
describe c = record { letters = letters_for (wires c); constants = constants_for (ancillas c); lines = map line_for (gates c) }

unfoldable pub text_of : List ℕ → List ℕ
text_of c = render (describe c)

-- the circuit's checks, then 8 if it is marked and 15 if its layout is not the plain one: a text cannot say either
unfoldable pub text_code : List ℕ → ℕ
text_code c = and_then (circuit_code c) (rule (not (marked c)) 8 (rule (eqb (layout_of c) (plain (data_wires c))) 15 0))

-- what the call answers: a refusal code; that the buffer is too short, with the code and the length needed; or the value
pub data Reply (A : Type 0) : Type 0 where
  refused : ℕ → Reply A
  short : ℕ → ℕ → Reply A
  answered : A → Reply A

abbrev pub fitted : List ℕ → ℕ → Reply (List ℕ)
fitted text room = pick (leb (length text) room) (answered text) (short 13 (length text))

unfoldable pub write_of : List ℕ → ℕ → Reply (List ℕ)
write_of c room = pick (eqb (text_code c) 0) (fitted (text_of c) room) (refused (text_code c))

-- the answer with the length of the text in place of the text
abbrev pub length_of : Reply (List ℕ) → Reply ℕ
length_of (refused code) = refused code
length_of (short code needed) = short code needed
length_of (answered text) = answered (length text)

-- the buffer afterwards: a text is written from byte 0, and later bytes are untouched; every other answer leaves it as it was
abbrev pub filled : Reply (List ℕ) → List ℕ → List ℕ
filled (refused code) out = out
filled (short code needed) out = out
filled (answered text) out = in_front text out
