-- The words of a data file that write bytes.
use Rattle.std.specs.Prelude.{Bool, not, List, ℕ, ◌%◌, leb, eqb, length, get_or}
use Rattle.logic.specs.Rules.{both, either}
use Rattle.logic.specs.Lists.{all_of}

-- 0 to 9, A to F
unfoldable pub is_digit : ℕ → Bool
is_digit b = either (both (leb 48 b) (leb b 57)) (both (leb 65 b) (leb b 70))

-- one byte: two digits
unfoldable pub is_byte : List ℕ → Bool
is_byte word = both (eqb (length word) 2) (all_of is_digit word)

-- no bytes: a dash
unfoldable pub is_dash : List ℕ → Bool
is_dash word = both (eqb (length word) 1) (eqb (get_or word 0 0) 45)

-- some bytes, at most so many digits
unfoldable pub is_bytes : List ℕ → ℕ → Bool
is_bytes word most = both (both (not (eqb (length word) 0)) (both (eqb (length word % 2) 0) (leb (length word) most))) (all_of is_digit word)

unfoldable pub is_word : List ℕ → ℕ → Bool
is_word word most = either (is_dash word) (is_bytes word most)
