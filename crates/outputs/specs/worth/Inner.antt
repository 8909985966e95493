-- The test of a gate as the code makes it, from the product table and the plan.
use Rattle.std.specs.Prelude.{Bool, List, ℕ, ◌+◌, ◌/◌, ◌%◌, ◌^◌, eqb, ltb, get_or}
use Rattle.std.specs.Int.Bits.{bit_and, bit_xor}
use Rattle.logic.specs.Rules.{both, either, pick}
use Rattle.columns.specs.Wanted.{dirt}

-- the column has every wanted bit of output j; the table has the wanted values from place 32 on, and the care columns from place 36 on
unfoldable pub has_output : List ℕ → ℕ → ℕ → Bool
has_output table column j = eqb (bit_and (bit_xor column (get_or table (32 + j) 0)) (get_or table (36 + j) 0)) 0

-- output j is in the set, and the column has it
abbrev pub has_in : List ℕ → ℕ → ℕ → ℕ → Bool
has_in table column set j = both (eqb (set / 2 ^ j % 2) 1) (has_output table column j)

-- the column has some output of the set
unfoldable pub has_one : List ℕ → ℕ → ℕ → Bool
has_one table column set =
    either (has_in table column set 3) (either (has_in table column set 2) (either (has_in table column set 1) (has_in table column set 0)))

-- the new column of target w mends something: w is the ancilla and it is 0, or it has an output of the set, or its own with the fixed
-- layout
unfoldable pub mends_by : List ℕ → ℕ → ℕ → ℕ → ℕ → ℕ → Bool
mends_by table set n free w column =
    pick (eqb n w) (eqb (dirt n column) 0) (both (ltb w n) (pick (eqb free 1) (has_one table column set) (has_output table column w)))
