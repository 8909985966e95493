-- What a table asks for, row by row, and when a gate list of any length and a layout realize it (documents 01 and 02: meet it).
use Rattle.std.specs.Prelude.{Bool, true, List, [], ◌∷◌, ℕ, suc, ◌/◌, ◌%◌, ◌^◌, ltb, eqb}
use Rattle.std.specs.Int.Bits.{bit_and}
use Rattle.logic.specs.Rules.{both, implies, all_below, pick}
use Rattle.logic.specs.Bit.{bit_of}
use Rattle.circuit.specs.run.Run.{forwards}
use Rattle.table.specs.layouts.Layouts.{wire_of}

-- "one byte a row: wanted-bits mask in the high four bits, value in the low four"; the wanted-bits mask is called care mask here
abbrev pub care_of : ℕ → ℕ
care_of row = row / 16

abbrev pub value_of : ℕ → ℕ
value_of row = row % 16

-- "A value bit outside the mask is 0. With n = 3, bit 3 of both is 0."
unfoldable pub row_ok : ℕ → ℕ → Bool
row_ok n row = both (eqb (bit_and (care_of row) (value_of row)) (value_of row)) (both (ltb (care_of row) (2 ^ n)) (ltb (value_of row) (2 ^ n)))

-- "for each row and each wanted bit j, the end value of the wire placed for j equals value bit j"
unfoldable pub bit_agrees : ℕ → ℕ → ℕ → ℕ → Bool
bit_agrees p row v j = implies (eqb (bit_of j (care_of row)) 1) (eqb (bit_of (wire_of p j) v) (bit_of j (value_of row)))

unfoldable pub row_agrees : ℕ → ℕ → ℕ → Bool
row_agrees p row v = all_below 4 (bit_agrees p row v)

-- the rows, the first of which has the number x, agree with the end values of the wires; `ends` gives the end value of each row number
unfoldable pub agrees_from : ℕ → (ℕ → ℕ) → ℕ → List ℕ → Bool
agrees_from p ends x [] = true
agrees_from p ends x (row ∷ rows) = both (row_agrees p row (ends x)) (agrees_from p ends (suc x) rows)

abbrev pub agrees : ℕ → (ℕ → ℕ) → List ℕ → Bool
agrees p ends rows = agrees_from p ends 0 rows

-- "the ancilla also ends at 0 for every row, unwanted rows included": the ancilla is wire n, and there are 2^n rows
abbrev pub at_zero : ℕ → (ℕ → ℕ) → ℕ → Bool
at_zero n ends x = eqb (bit_of n (ends x)) 0

unfoldable pub clean : ℕ → (ℕ → ℕ) → Bool
clean n ends = all_below (2 ^ n) (at_zero n ends)

-- "meets" a table of n outputs: run on each row number, the list gives the bits that the table cares about, and is clean
unfoldable pub realizes : ℕ → List ℕ → ℕ → List ℕ → Bool
realizes n rows p gs = both (agrees p (forwards gs) rows) (clean n (forwards gs))

-- the number of the row that has the value v, in the list of the values of all rows
unfoldable pub row_of : ℕ → List ℕ → ℕ
row_of v [] = 0
row_of v (y ∷ ys) = pick (eqb y v) 0 (suc (row_of v ys))
