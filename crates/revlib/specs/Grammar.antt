-- RevLib `.real` text (change request 1). A description is what such a text says; it has one rendering as text, rules of its own, and a
-- circuit record.
use Rattle.std.specs.Prelude.{Bool, true, false, not, List, [], ◌∷◌, ◌++◌, map, ℕ, suc, ◌+◌, ◌-◌, ◌*◌, ◌^◌, leb, eqb, length, replicate}
use Rattle.logic.specs.Rules.{both, either, pick}
use Rattle.logic.specs.Lists.{all_of}
use Rattle.table.specs.layouts.Layouts.{plain}
use Rattle.record.specs.circuit_fields.Circuits.{circuit_bytes}
use Rattle.logic.specs.Words.{bytes}

-- the `.constants` line: left out, with a dash for each wire, or with a dash for each data wire and a closing 0 for the ancilla
pub data Constants : Type 0 where
  unsaid : Constants
  all_data : Constants
  one_ancilla : Constants

-- the declared letters, the `.constants` line, and for each gate line its letters, "target last"
pub record Description : Type 0 where
  pub letters : List ℕ
  pub constants : Constants
  pub lines : List (List ℕ)

abbrev pub ancilla_count : Constants → ℕ
ancilla_count unsaid = 0
ancilla_count all_data = 0
ancilla_count one_ancilla = 1

-- The rendering.

-- "one space between words": each letter after a space
unfoldable pub spaced : List ℕ → List ℕ
spaced [] = []
spaced (x ∷ xs) = 32 ∷ x ∷ spaced xs

abbrev pub digit : ℕ → List ℕ
digit n = (48 + n) ∷ []

unfoldable pub numvars_line : ℕ → List ℕ
numvars_line w = bytes ".numvars " ++ (digit w ++ bytes "\n")

unfoldable pub variables_line : List ℕ → List ℕ
variables_line ls = bytes ".variables" ++ (spaced ls ++ bytes "\n")

-- "one word of a `-` for each data wire and, if there is an ancilla, a closing `0`"
unfoldable pub constants_word : ℕ → ℕ → List ℕ
constants_word n m = replicate n 45 ++ replicate m 48

unfoldable pub constants_line : ℕ → Constants → List ℕ
constants_line w unsaid = []
constants_line w all_data = bytes ".constants " ++ (constants_word w 0 ++ bytes "\n")
constants_line w one_ancilla = bytes ".constants " ++ (constants_word (w - 1) 1 ++ bytes "\n")

unfoldable pub heading : List ℕ → Constants → List ℕ
heading ls c =
    bytes ".version 2.0\n" ++ (numvars_line (length ls) ++ (variables_line ls ++ (constants_line (length ls) c ++ bytes ".begin\n")))

-- "`t1`, `t2` or `t3` and that many .. letters"
unfoldable pub gate_line : List ℕ → List ℕ
gate_line l = bytes "t" ++ (digit (length l) ++ (spaced l ++ bytes "\n"))

unfoldable pub body : List (List ℕ) → List ℕ
body [] = bytes ".end\n"
body (l ∷ ls) = gate_line l ++ body ls

unfoldable pub render : Description → List ℕ
render d = heading d.letters d.constants ++ body d.lines

-- The rules.

-- x is an element of the list
unfoldable pub is_in : ℕ → List ℕ → Bool
is_in x [] = false
is_in x (y ∷ ys) = either (eqb y x) (is_in x ys)

-- no element stands twice
unfoldable pub different : List ℕ → Bool
different [] = true
different (x ∷ xs) = both (not (is_in x xs)) (different xs)

unfoldable pub lower_case : ℕ → Bool
lower_case x = both (leb 97 x) (leb x 122)

-- "Without `.constants` all wires are data"
unfoldable pub data_count : List ℕ → Constants → ℕ
data_count ls c = length ls - ancilla_count c

-- "n and m obey document 01", so that W is 3 to 5; "W different lower-case letters"
unfoldable pub heading_ok : List ℕ → Constants → Bool
heading_ok ls c = both (either (eqb (data_count ls c) 3) (eqb (data_count ls c) 4)) (both (different ls) (all_of lower_case ls))

abbrev pub declared : List ℕ → ℕ → Bool
declared ls x = is_in x ls

-- a gate line has one, two or three "different declared letters"
unfoldable pub line_ok : List ℕ → List ℕ → Bool
line_ok ls l = both (both (leb 1 (length l)) (leb (length l) 3)) (both (different l) (all_of (declared ls) l))

unfoldable pub well_formed : Description → Bool
well_formed d = both (heading_ok d.letters d.constants) (all_of (line_ok d.letters) d.lines)

-- The record.

-- the wire of a letter: "the first is wire 0"
unfoldable pub wire_of : List ℕ → ℕ → ℕ
wire_of [] x = 0
wire_of (y ∷ ys) x = pick (eqb y x) 0 (suc (wire_of ys x))

-- the byte of a gate line: the target in the high three bits, a bit for each control
unfoldable pub gate_byte : List ℕ → List ℕ → ℕ
gate_byte ls [] = 0
gate_byte ls (t ∷ []) = 32 * wire_of ls t
gate_byte ls (c ∷ d ∷ l) = 2 ^ wire_of ls c + gate_byte ls (d ∷ l)

-- "a circuit record with plain placing", unmarked because no line has three controls; "its gate lines are the record's gates in order"
unfoldable pub record_of : Description → List ℕ
record_of d =
    let n = data_count d.letters d.constants in
    circuit_bytes n (ancilla_count d.constants) false (plain n) (map (gate_byte d.letters) d.lines)
