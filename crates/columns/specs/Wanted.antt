-- A table as bit-sliced columns: bit x of a column belongs to row x.
use Rattle.std.specs.Prelude.{Bool, true, false, List, [], ◌∷◌, ℕ, ◌+◌, ◌*◌, eqb, get_or}
use Rattle.std.specs.Int.Bits.{bit_and, bit_xor}
use Rattle.logic.specs.Rules.{both, pick, all_below}
use Rattle.logic.specs.Lists.{back}
use Rattle.logic.specs.Bit.{bit_of}
use Rattle.table.specs.layouts.Layouts.{wire_of}
use Rattle.table.specs.Rows.{care_of, value_of}
use Rattle.columns.specs.declared.Wanted.{Wanted}

-- the bit of one more row, in front of the column of the rows after it
abbrev pub shift_in : (ℕ → ℕ) → ℕ → ℕ → ℕ
shift_in f row column = f row + 2 * column

-- the column whose bit x is f of row x, where f gives bits
abbrev pub column_of : (ℕ → ℕ) → List ℕ → ℕ
column_of f rows = back (shift_in f) rows 0

-- bit j of a row's care mask or of its value
unfoldable pub row_bit : Bool → ℕ → ℕ → ℕ
row_bit care j row = bit_of j (pick care (care_of row) (value_of row))

-- the care columns or the value columns of the four outputs
unfoldable pub columns_of : Bool → List ℕ → List ℕ
columns_of care rows =
    column_of (row_bit care 0) rows ∷ column_of (row_bit care 1) rows ∷ column_of (row_bit care 2) rows ∷ column_of (row_bit care 3) rows ∷ []

-- what the rows of a table want of the four outputs
unfoldable pub wanted_of : List ℕ → Wanted
wanted_of rows = record { care = columns_of true rows; value = columns_of false rows }

-- row x starts with the value x: bit x of column w is bit w of x
unfoldable pub start_columns : List ℕ
start_columns = 43690 ∷ 52428 ∷ 61680 ∷ 65280 ∷ 0 ∷ []

-- the rows in which a column differs from what is wanted of output j
unfoldable pub misses : Wanted → ℕ → ℕ → ℕ
misses t column j = bit_and (bit_xor column (get_or t.value j 0)) (get_or t.care j 0)

-- the column has every wanted bit of output j
abbrev pub fitting : Wanted → ℕ → ℕ → Bool
fitting t column j = eqb (misses t column j) 0

-- output j has every wanted bit on the wire where layout p puts it
abbrev pub fits : Wanted → List ℕ → ℕ → ℕ → Bool
fits t cs p j = fitting t (get_or cs (wire_of p j) 0) j

-- the columns have every wanted bit of the table under layout p
unfoldable pub met : Wanted → List ℕ → ℕ → Bool
met t cs p = all_below 4 (fits t cs p)

-- all rows of a table of n outputs, a bit each: 8 or 16
abbrev pub all_rows : ℕ → ℕ
all_rows n = pick (eqb n 3) 255 65535

-- the dirt: the rows in which the ancilla, with this column, is not 0
unfoldable pub dirt : ℕ → ℕ → ℕ
dirt n column = bit_and column (all_rows n)

-- the ancilla, wire n, is 0 in every row
abbrev pub tidy : ℕ → List ℕ → Bool
tidy n cs = eqb (dirt n (get_or cs n 0)) 0

-- the columns realize the table under layout p: every output has its wanted bits, and the ancilla is 0
abbrev pub reached : Wanted → ℕ → List ℕ → ℕ → Bool
reached t n cs p = both (met t cs p) (tidy n cs)
