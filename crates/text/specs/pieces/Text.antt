-- Numbers, bytes and the two lines that answer a search, as ASCII text.
use Rattle.std.specs.Prelude.{List, [], ◌∷◌, ◌++◌, ℕ, ◌+◌, ◌/◌, ◌%◌, ltb, leb, length, drop}
use Rattle.logic.specs.Rules.{pick}
use Rattle.circuit.specs.declared.measures.Measures.{Measures}
use Rattle.logic.specs.Words.{bytes}

-- the digit of one place, 1, 10, 100 and so on, of a number; nothing where the number does not reach that place
unfoldable pub place : ℕ → ℕ → List ℕ
place n p = pick (leb p n) ((48 + n / p % 10) ∷ []) []

-- a number below 100,000 in decimal, without leading zeros; 0 is one digit
unfoldable pub decimal : ℕ → List ℕ
decimal n = place n 10000 ++ (place n 1000 ++ (place n 100 ++ (place n 10 ++ ((48 + n % 10) ∷ []))))

-- 0 to 9, A to F
unfoldable pub hex_digit : ℕ → ℕ
hex_digit d = pick (ltb d 10) (48 + d) (55 + d)

-- "upper-case hexadecimal": two digits a byte, the high one first
unfoldable pub hex_of : List ℕ → List ℕ
hex_of [] = []
hex_of (b ∷ bs) = hex_digit (b / 16) ∷ hex_digit (b % 16) ∷ hex_of bs

abbrev pub line_feed : List ℕ
line_feed = 10 ∷ []

-- a number and "one space between" it and what follows
unfoldable pub spaced : ℕ → List ℕ
spaced n = decimal n ++ (32 ∷ [])

-- "`refused` and the number"
unfoldable pub refused_line : ℕ → List ℕ
refused_line code = bytes "refused " ++ (decimal code ++ line_feed)

-- "`found`, gates, cost, depth and the record"
unfoldable pub found_line : Measures → List ℕ → List ℕ
found_line m circuit =
    bytes "found " ++ (spaced m.gates ++ (spaced m.cost ++ (spaced m.depth ++ (hex_of circuit ++ line_feed))))

-- a buffer after a line, or any other bytes, were "written from byte 0; later bytes are untouched"
abbrev pub in_front : List ℕ → List ℕ → List ℕ
in_front line out = line ++ drop (length line) out
