-- The lines that `tally` prints of the cells.
use Rattle.std.specs.Prelude.{List, [], ◌∷◌, ◌++◌, ℕ, ◌-◌, ltb, eqb, get_or}
use Rattle.logic.specs.Rules.{pick}
use Rattle.logic.specs.Words.{bytes}
use Rattle.text.specs.pieces.Text.{decimal, line_feed}
use Rattle.tally.specs.counts.Counts.{how_many, published}

-- a word and a number
unfoldable pub counted : List ℕ → ℕ → List ℕ
counted word n = word ++ decimal n

-- a line of a word and a number
unfoldable pub number_line : List ℕ → ℕ → List ℕ
number_line word n = counted word n ++ line_feed

-- `gates 3: 625, published 625`: how many cells hold k, and how many were published
unfoldable pub gates_line : List ℕ → ℕ → List ℕ
gates_line cells k =
    counted (bytes "gates ") k
    ++ (counted (bytes ": ") (how_many k k cells) ++ (counted (bytes ", published ") (get_or published k 0) ++ line_feed))

-- `cell 24: 5`: what the cell at a place holds
unfoldable pub cell_line : List ℕ → ℕ → List ℕ
cell_line cells place = counted (bytes "cell ") place ++ (counted (bytes ": ") (get_or cells place 0) ++ line_feed)

-- the cells that are printed
unfoldable pub places : List ℕ
places =
    0 ∷ 1 ∷ 2 ∷ 23 ∷ 24 ∷ 719 ∷ 5039 ∷ 5040 ∷ 5167 ∷ 10000 ∷ 20160 ∷ 27182 ∷ 31415 ∷ 35279 ∷ 40318 ∷ 40319 ∷ []

-- line i of 26: nine counts, then the cells that hold more than 8, then sixteen cells
unfoldable pub line_at : List ℕ → ℕ → List ℕ
line_at cells i =
    pick (ltb i 9) (gates_line cells i)
    (pick (eqb i 9) (number_line (bytes "more: ") (how_many 9 255 cells)) (cell_line cells (get_or places (i - 10) 0)))
