-- What `fill` answers, and what it leaves in the buffer: the table of sizes, which has a cell of one byte for each permutation of three
-- wires.
use Rattle.std.specs.Prelude.{List, ℕ, eqb, length}
use Rattle.logic.specs.Rules.{pick, rule}
use Rattle.logic.specs.Answers.{Answer, answer_of}
use Rattle.sizes.specs.permutations.Sizes.{sizes}

-- "a lent buffer of 40,320 bytes"; "25, a buffer of another length, checked first"
unfoldable pub fill_code : List ℕ → ℕ
fill_code cells = rule (eqb (length cells) 40320) 25 0

unfoldable pub fill_of : List ℕ → Answer (Unit {0})
fill_of cells = answer_of (fill_code cells) tt

-- the buffer at exit: the table of sizes, or what was there where the call is refused
unfoldable pub cells_left : List ℕ → List ℕ
cells_left cells = pick (eqb (fill_code cells) 0) sizes cells
