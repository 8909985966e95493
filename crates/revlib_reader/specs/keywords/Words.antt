-- What is compared with the start of a line, and what its first word says.
use Rattle.std.specs.Prelude.{List, ◌++◌, ℕ, zero, suc, Option, Some, None}
use Rattle.revlib.specs.Grammar.{spaced}
use Rattle.logic.specs.Words.{bytes}

-- the letters, each after a space, and the line feed
unfoldable pub letters_line : List ℕ → List ℕ
letters_line ls = spaced ls ++ bytes "\n"

-- a number of letters, if it isn't 0
abbrev pub count_said : ℕ → Option ℕ
count_said zero = None
count_said (suc n) = Some (suc n)
