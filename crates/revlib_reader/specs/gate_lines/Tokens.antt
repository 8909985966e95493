-- The line at the start of a text, as the enum of the reader; `None` where it departs from the form.
use Rattle.std.specs.Prelude.{List, ℕ, ◌+◌, ◌*◌, length, Option, Some, None}
use Rattle.logic.specs.Rules.{pick}
use Rattle.revlib.specs.Grammar.{gate_byte}
use Rattle.revlib.specs.Reading.{line_at, line_here, end_here}
use Rattle.revlib_reader.specs.declared.gate_lines.Line.{Line}

-- a gate line, with the declared letters ls
abbrev pub gate_of : List ℕ → List ℕ → Option Line
gate_of ls s = pick (line_here ls s) (Some (Line.Gate (gate_byte ls (line_at s)) (3 + 2 * length (line_at s)))) None

-- any line
unfoldable pub line_of : List ℕ → List ℕ → Option Line
line_of ls s = pick (end_here s) (Some Line.End) (gate_of ls s)
