-- The parts of a heading, and what is read off and tested of each. No public contract cites this.
use Rattle.std.specs.Prelude.{Bool, List, [], ◌∷◌, ◌++◌, ℕ, ◌+◌, ◌*◌, eqb, get_or, replicate}
use Rattle.logic.specs.Rules.{both, either}
use Rattle.logic.specs.Lists.{all_of}
use Rattle.revlib.specs.Grammar.{Constants, unsaid, all_data, one_ancilla}
use Rattle.revlib.specs.Grammar.{numvars_line, constants_line, heading, different, lower_case, heading_ok}
use Rattle.logic.specs.Words.{bytes}
use Rattle.revlib.specs.Reading.{starts}
use Rattle.revlib_reader.specs.declared.heading.Constants as read

-- the line of the grammar
abbrev pub said_by : read.Constants → Constants
said_by read.Constants.Unsaid = unsaid
said_by read.Constants.AllData = all_data
said_by read.Constants.OneAncilla = one_ancilla

-- a heading of w wires up to its letters, and what follows the line of its letters
unfoldable pub opening : ℕ → List ℕ
opening w = bytes ".version 2.0\n" ++ (numvars_line w ++ bytes ".variables")

unfoldable pub closing : ℕ → Constants → List ℕ
closing w c = constants_line w c ++ bytes ".begin\n"

-- n dashes, and a `.constants` line with them and this end
unfoldable pub dashes : ℕ → List ℕ
dashes n = replicate n 45

unfoldable pub dashed : ℕ → List ℕ → List ℕ
dashed n end = bytes ".constants " ++ (dashes n ++ end)

-- the bytes at the five places where a declared letter can stand
unfoldable pub five_at : List ℕ → List ℕ
five_at s = get_or s 35 0 ∷ get_or s 37 0 ∷ get_or s 39 0 ∷ get_or s 41 0 ∷ get_or s 43 0 ∷ []

-- three or four data wires, and different lower-case letters
unfoldable pub names_ok : List ℕ → ℕ → Bool
names_ok ls n = both (either (eqb n 3) (eqb n 4)) (both (different ls) (all_of lower_case ls))

-- letters and constants are in order, and the text begins with the heading that they make
unfoldable pub headed : List ℕ → Constants → List ℕ → Bool
headed ls c s = both (heading_ok ls c) (starts (heading ls c) s)

-- the length of a heading of w wires, with or without `.constants`
abbrev pub end_of : ℕ → Constants → ℕ
end_of w unsaid = 42 + 2 * w
end_of w all_data = 54 + 3 * w
end_of w one_ancilla = 54 + 3 * w
