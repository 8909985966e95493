-- Misses row by row: none exactly where a list agrees with the rows, and at most four a row.
use mathlib.Core.Path.{◌≡◌, refl, ap}
use mathlib.Core.Bool.{Bool, true, false, not}
use mathlib.Core.List.{List, [], ◌∷◌}
use Prim.Native.Nat.{ℕ, zero, suc, ◌*◌, ◌≤◌}
use native.Mathlib.Omega.{arith}
use borrow.Author.Tests.{leb-true, le-leb}
use lib.Dec.{leb}
use lib.ListN.{length}
use Rattle.logic.specs.Rules.{both, bit, all_below, count_below}
use Rattle.logic.proofs.Chain.{both_parts, both_true}
use Rattle.logic.proofs.Below.{below}
use Rattle.logic.proofs.Counts.{same_truth, count_none, count_le}
use Rattle.circuit.specs.run.Run.{forwards}
use Rattle.table.specs.Rows.{bit_agrees, row_agrees, agrees_from, agrees, clean, realizes}
use Rattle.near_misses.specs.misses.Misses.{row_misses, misses_from, missed_bits, approximates}

so : (b : Bool) → bit (not b) ≡ 0 → b ≡ true
so true h = refl
so false h = absurd (omega arith)

module _ (f : ℕ → Bool) where
  none_missed : (n : ℕ) → count_below n (λ j. not (f j)) ≡ 0 → all_below n f ≡ true
  none_missed zero h = refl
  none_missed (suc n) h = both_true (so (f n) (omega arith)) (none_missed n (omega arith))

  all_none : (n : ℕ) → all_below n f ≡ true → count_below n (λ j. not (f j)) ≡ 0
  all_none n h = count_none (λ j. not (f j)) n (λ k l. ap not (below n f h k l))

module _ (p : ℕ) where
  row_none : (row v : ℕ) → row_agrees p row v ≡ true → row_misses p row v ≡ 0
  unfolding row_agrees row_misses
  row_none row v h = all_none (bit_agrees p row v) 4 h

  none_row : (row v : ℕ) → row_misses p row v ≡ 0 → row_agrees p row v ≡ true
  unfolding row_agrees row_misses
  none_row row v h = none_missed (bit_agrees p row v) 4 h

  row_most : (row v : ℕ) → row_misses p row v ≤ 4
  unfolding row_misses
  row_most row v = count_le (λ j. not (bit_agrees p row v j)) 4

  module _ (ends : ℕ → ℕ) where
    agrees_none : (x : ℕ) (rows : List ℕ) → agrees_from p ends x rows ≡ true → misses_from p ends x rows ≡ 0
    unfolding agrees_from misses_from
    agrees_none x [] h = refl
    agrees_none x (row ∷ rows) h =
        let q = both_parts (row_agrees p row (ends x)) (agrees_from p ends (suc x) rows) h in
        omega (arith, row_none row (ends x) q.0, agrees_none (suc x) rows q.1)

    none_agrees : (x : ℕ) (rows : List ℕ) → misses_from p ends x rows ≡ 0 → agrees_from p ends x rows ≡ true
    unfolding agrees_from misses_from
    none_agrees x [] h = refl
    none_agrees x (row ∷ rows) h = both_true (none_row row (ends x) (omega arith)) (none_agrees (suc x) rows (omega arith))

    misses_most : (x : ℕ) (rows : List ℕ) → misses_from p ends x rows ≤ 4 * length rows
    unfolding misses_from
    misses_most x [] = omega arith
    misses_most x (row ∷ rows) = omega (arith, row_most row (ends x), misses_most (suc x) rows)

-- a table of at most 16 rows has at most 64 wanted bits
pub most_missed : (rows : List ℕ) (p : ℕ) (gs : List ℕ) → length rows ≤ 16 → missed_bits rows p gs ≤ 64
most_missed rows p gs h = omega (arith, misses_most p (forwards gs) 0 rows)

-- to miss nothing is to realize the table
pub none_realizes : (n : ℕ) (rows : List ℕ) (p : ℕ) (gs : List ℕ) → approximates n rows 0 p gs ≡ realizes n rows p gs
unfolding approximates realizes
none_realizes n rows p gs =
    ap (λ (b : Bool). both b (clean n (forwards gs)))
    (same_truth (leb (missed_bits rows p gs) 0) (agrees p (forwards gs) rows)
    (λ t. none_agrees p (forwards gs) 0 rows (let h = leb-true (missed_bits rows p gs) 0 t in omega arith))
    (λ t. le-leb (missed_bits rows p gs) 0 (omega (arith, agrees_none p (forwards gs) 0 rows t))))
