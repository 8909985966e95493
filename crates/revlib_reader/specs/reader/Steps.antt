-- One line of the body after the other, and the whole text, as the structs of the reader say them.
use Rattle.std.specs.Prelude.{◌≡◌, List, map, ℕ, ◌+◌, ◌≤◌, ltb, length, take, drop, Option, Some, None, Result, Ok, Err}
use Rattle.std.proofs.Math.Option as maths
use Rattle.logic.specs.Rules.{both, pick}
use Rattle.revlib.specs.Grammar.{gate_byte}
use Rattle.revlib.specs.Reading.{lines_at, parse}
use Rattle.revlib_reader.specs.declared.gate_lines.Line.{Line}
use Rattle.revlib_reader.specs.declared.heading.Heading.{Heading}
use Rattle.revlib_reader.specs.declared.reader.Body.{Body}
use Rattle.revlib_reader.specs.declared.reader.Departure.{Departure}
use Rattle.revlib_reader.specs.declared.reader.Text.{Text}
use Rattle.revlib_reader.specs.gate_lines.Tokens.{line_of}
use Rattle.revlib_reader.specs.heading.Heading.{HeadingIs, HeadingBroken}

-- the line at place `at` of a text of at most 4,096 bytes; past its end there is none in order
unfoldable pub line_in : List ℕ → List ℕ → ℕ → Option Line
line_in ls s at = pick (both (ltb at (length s)) (ltb at 4096)) (line_of ls (drop at s)) None

-- the place behind a line: the end and a departure are not passed
abbrev pub behind : ℕ → Option Line → ℕ
behind at (Some (Line.Gate byte size)) = at + size
behind at (Some Line.End) = at
behind at None = at

-- the gate lines read, with the gate bytes of up to twelve
pub record LinesAre (ls : List ℕ) (lines : maths.Option (List (List ℕ))) (b : Body) : Type 0 where
  pub read : List (List ℕ)
  pub are : lines ≡ maths.some read
  pub counted : b.count ≡ length read
  pub kept : b.count ≤ 12 → take b.count b.gates ≡ map (gate_byte ls) read

-- the body from place `at` on, or a departure from the form
abbrev pub BodyIs : List ℕ → List ℕ → ℕ → Option Body → Type 0
BodyIs ls s at None = lines_at ls 0 (drop at s) ≡ maths.none
BodyIs ls s at (Some b) = LinesAre ls (lines_at ls 0 (drop at s)) b

abbrev pub letters_of : Heading → List ℕ
letters_of head = take head.wires head.names

-- a heading in order, and behind it the body; or a departure from the form, in the heading or behind one that is in order. The body is
-- known only of a text of at most 4,096 bytes, the heading of each
abbrev pub TextIs : List ℕ → Result Text Departure → Type 0
TextIs s (Ok t) = HeadingIs s t.head × (length s ≤ 4096 → BodyIs (letters_of t.head) s t.head.end (Some t.body))
TextIs s (Err (Departure.Heading h)) = HeadingBroken s h × (parse s ≡ maths.none)
TextIs s (Err (Departure.Body h)) = HeadingIs s h × (length s ≤ 4096 → BodyIs (letters_of h) s h.end None × (parse s ≡ maths.none))
