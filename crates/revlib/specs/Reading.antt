-- Reading `.real` text. A description is read off the fixed places of a text, and it is what the text says if its rendering is the text.
-- Then what the call that reads a text answers.
use Rattle.std.specs.Prelude.{Bool, true, false, List, [], ◌∷◌, ℕ, zero, suc, ◌+◌, ◌-◌, ◌*◌, leb, eqb, length, get_or, take, drop}
use Rattle.std.proofs.Math.Option.{Option, none, some}
use Rattle.logic.specs.Rules.{both, pick}
use Rattle.logic.specs.Answers.{Answer, refused, answered}
use Rattle.text.specs.pieces.Text.{in_front}
use Rattle.revlib.specs.Grammar.{Constants, unsaid, all_data, one_ancilla, Description, heading, gate_line, heading_ok, line_ok, record_of}
use Rattle.logic.specs.Words.{bytes}

-- the text s begins with the word
unfoldable pub starts : List ℕ → List ℕ → Bool
starts [] s = true
starts (x ∷ xs) [] = false
starts (x ∷ xs) (y ∷ s) = both (eqb y x) (starts xs s)

-- Gate lines.

-- how many letters the first word of a line announces, or 0 where it is none of `t1`, `t2`, `t3`
unfoldable pub announced : List ℕ → ℕ
announced s = pick (starts (bytes "t1") s) 1 (pick (starts (bytes "t2") s) 2 (pick (starts (bytes "t3") s) 3 0))

-- the letters of the line at the start of s, as many as announced
unfoldable pub line_at : List ℕ → List ℕ
line_at s = take (announced s) (get_or s 3 0 ∷ get_or s 5 0 ∷ get_or s 7 0 ∷ [])

-- a gate line in order, of the declared letters ls, stands at the start of s
unfoldable pub line_here : List ℕ → List ℕ → Bool
line_here ls s = both (line_ok ls (line_at s)) (starts (gate_line (line_at s)) s)

-- `.end`, its line feed and nothing more
unfoldable pub end_here : List ℕ → Bool
end_here s = both (starts (bytes ".end\n") s) (eqb (length s) 5)

-- a line in front of those read after it, if they can be read
abbrev pub after : List ℕ → Option (List (List ℕ)) → Option (List (List ℕ))
after l none = none
after l (some ls) = some (l ∷ ls)

-- the gate lines up to `.end`, if all is in order; the first n bytes belong to the line before and are skipped
unfoldable pub lines_at : List ℕ → ℕ → List ℕ → Option (List (List ℕ))
lines_at ls n [] = none
lines_at ls (suc n) (b ∷ s) = lines_at ls n s
lines_at ls zero (b ∷ s) =
    pick (end_here (b ∷ s)) (some [])
    (pick (line_here ls (b ∷ s)) (after (line_at (b ∷ s)) (lines_at ls (2 + 2 * length (line_at (b ∷ s))) s)) none)

-- The heading.

-- the declared letters: as many as the digit at 22 says, at every second place from 35 on
unfoldable pub names_at : List ℕ → List ℕ
names_at s = take (get_or s 22 0 - 48) (get_or s 35 0 ∷ get_or s 37 0 ∷ get_or s 39 0 ∷ get_or s 41 0 ∷ get_or s 43 0 ∷ [])

-- whether there is a `.constants` line, and whether its word closes with a 0
abbrev pub constants_of : Bool → Bool → Constants
constants_of false closing = unsaid
constants_of true false = all_data
constants_of true true = one_ancilla

-- with w letters, `.constants` stands at 35 + 2 w, and the last byte of its word at 45 + 3 w
unfoldable pub constants_at : List ℕ → ℕ → Constants
constants_at s w = constants_of (starts (bytes ".constants ") (drop (35 + 2 * w) s)) (eqb (get_or s (45 + 3 * w) 0) 48)

unfoldable pub constants_in : List ℕ → Constants
constants_in s = constants_at s (length (names_at s))

-- a heading in order stands at the start of s
unfoldable pub heading_here : List ℕ → Bool
heading_here s = both (heading_ok (names_at s) (constants_in s)) (starts (heading (names_at s) (constants_in s)) s)

abbrev pub described : List ℕ → Constants → Option (List (List ℕ)) → Option Description
described ls c none = none
described ls c (some l) = some (record { letters = ls; constants = c; lines = l })

-- the text behind the heading
unfoldable pub rest_of : List ℕ → List ℕ
rest_of s = drop (length (heading (names_at s) (constants_in s))) s

-- the description whose rendering the text is, if there is one
unfoldable pub parse : List ℕ → Option Description
parse s = pick (heading_here s) (described (names_at s) (constants_in s) (lines_at (names_at s) 0 (rest_of s))) none

-- The call: "the order is 13 for the answer buffer, 22, 23".

-- "23, more than 12 gates"
abbrev pub outcome_of : Option Description → Answer (List ℕ)
outcome_of none = refused 22
outcome_of (some d) = pick (leb (length d.lines) 12) (answered (record_of d)) (refused 23)

-- "22, any departure from this form, length included"
unfoldable pub read_of : List ℕ → ℕ → Answer (List ℕ)
read_of text room = pick (leb 15 room) (pick (leb (length text) 4096) (outcome_of (parse text)) (refused 22)) (refused 13)

-- "its length returned"
abbrev pub size_of : Answer (List ℕ) → Answer ℕ
size_of (refused code) = refused code
size_of (answered bytes) = answered (length bytes)

-- the buffer afterwards: a refusal leaves it as it was; a record is written from byte 0, and later bytes are untouched
abbrev pub written : Answer (List ℕ) → List ℕ → List ℕ
written (refused code) answer = answer
written (answered bytes) answer = in_front bytes answer
