-- How long the lines are.
use mathlib.Core.Bool.{Bool, true, false}
use mathlib.Core.List.{List}
use Prim.Native.Nat.{ℕ, ◌+◌, ◌-◌, ◌≤◌}
use native.Mathlib.Omega.{arith}
use lib.Dec.{ltb, eqb}
use lib.ListN.{length, get_or, length-append}
use Rattle.logic.specs.Rules.{pick}
use Rattle.logic.specs.Words.{bytes}
use Rattle.text.proofs.pieces.Pieces.{decimal_short}
use Rattle.tally.specs.counts.Counts.{how_many, published}
use Rattle.tally.specs.lines.Lines.{counted, number_line, gates_line, cell_line, places, line_at}

pub counted_short : (word : List ℕ) (n : ℕ) → length (counted word n) ≤ length word + 5
unfolding counted
counted_short word n = simp length-append (omega (arith, decimal_short n))

pub number_short : (word : List ℕ) (n : ℕ) → length word ≤ 20 → length (number_line word n) ≤ 64
unfolding number_line
number_short word n h = simp length-append (omega (arith, counted_short word n))

gates_short : (cells : List ℕ) (k : ℕ) → length (gates_line cells k) ≤ 64
unfolding gates_line
gates_short cells k =
    simp length-append
    (omega (
      arith,
      counted_short (bytes "gates ") k,
      counted_short (bytes ": ") (how_many k k cells),
      counted_short (bytes ", published ") (get_or published k 0),
    ))

cell_short : (cells : List ℕ) (place : ℕ) → length (cell_line cells place) ≤ 64
unfolding cell_line
cell_short cells place =
    simp length-append (omega (arith, counted_short (bytes "cell ") place, counted_short (bytes ": ") (get_or cells place 0)))

pub line_short : (cells : List ℕ) (i : ℕ) → length (line_at cells i) ≤ 64
unfolding line_at
line_short cells i = by_line (ltb i 9) (eqb i 9)
  where
    by_line : (s t : Bool)
        → length (pick s (gates_line cells i) (pick t (number_line (bytes "more: ") (how_many 9 255 cells)) (cell_line cells (get_or places (i - 10) 0)))) ≤ 64
    by_line true t = gates_short cells i
    by_line false true = number_short (bytes "more: ") (how_many 9 255 cells) (omega arith)
    by_line false false = cell_short cells (get_or places (i - 10) 0)
