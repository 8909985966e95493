-- Columns of bits: bit x of a column is what row x says, and a column of k rows is below 2 ^ k.
use mathlib.Core.Path.{◌≡◌, refl, ap, ◌∙◌}
use mathlib.Core.Bool.{Bool, true}
use mathlib.Core.List.{List, [], ◌∷◌}
use Prim.Native.Nat.{ℕ, zero, suc, ◌+◌, ◌*◌, ◌/◌, ◌^◌, ◌≤◌, ◌<◌}
use native.Mathlib.Nat.{not-suc-le-zero, le_of_suc-le-suc, lt_of_lt_of_le}
use native.Mathlib.Omega.{arith}
use borrow.Author.Tests.{eqb-true}
use lib.Dec.{eqb}
use lib.ListN.{length, get_or}
use lib.Pow.{pow_mono}
use Rattle.logic.specs.Rules.{all_below}
use Rattle.logic.specs.Lists.{back}
use Rattle.logic.specs.Bit.{bit_of}
use Rattle.logic.proofs.Below.{below}
use Rattle.logic.proofs.Bits.{pow-suc, bit_half}
use Rattle.gate.proofs.Slices.{Row}
use Rattle.columns.specs.Wanted.{column_of, row_bit, start_columns}

module _ (f : ℕ → ℕ) (bits : (row : ℕ) → f row < 2) where
  pub column_bit : (table : List ℕ) (x : ℕ) → x < length table → bit_of x (column_of f table) ≡ f (get_or table x 0)
  unfolding back
  column_bit [] x h = absurd (not-suc-le-zero h)
  column_bit (row ∷ table) zero h = omega (arith, bits row)
  column_bit (row ∷ table) (suc x) h =
      let e : (f row + 2 * column_of f table) / 2 ≡ column_of f table = omega (arith, bits row) in
      bit_half x (f row + 2 * column_of f table) ∙ ap (bit_of x) e ∙ column_bit table x (le_of_suc-le-suc h)

  pub column_lt : (table : List ℕ) → column_of f table < 2 ^ length table
  unfolding back
  column_lt [] = omega arith
  column_lt (row ∷ table) = rw (pow-suc (length table)) (omega (arith, bits row, column_lt table))

pub row_bit_lt : (care : Bool) (j row : ℕ) → row_bit care j row < 2
unfolding row_bit
row_bit_lt care j row = omega arith

-- the columns of a table fit 16 bits
pub column_fits : (care : Bool) (j : ℕ) (table : List ℕ) → length table ≤ 16 → column_of (row_bit care j) table < 65536
column_fits care j table h = lt_of_lt_of_le (column_lt (row_bit care j) (row_bit_lt care j) table) (pow_mono h)

abbrev right_start : ℕ → ℕ → Bool
right_start x w = eqb (bit_of x (get_or start_columns w 0)) (bit_of w x)

abbrev right_starts : ℕ → Bool
right_starts x = all_below 5 (right_start x)

right_starts_law : all_below 16 right_starts ≡ true
unfolding start_columns
right_starts_law = refl

pub start_row : (x : ℕ) → x < 16 → Row start_columns x x
start_row x hx w hw = eqb-true (bit_of x (get_or start_columns w 0)) (bit_of w x) (below 5 (right_start x) (below 16 right_starts right_starts_law x hx) w hw)
