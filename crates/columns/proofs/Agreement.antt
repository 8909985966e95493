-- The whole-column test is the row-by-row test: columns have every wanted bit of a table exactly when the list agrees with its rows, and
-- the ancilla's column is 0 exactly when the list is clean.
use mathlib.Core.Path.{◌≡◌, refl, sym, ap, ap₂, ◌∙◌}
use mathlib.Core.Bool.{Bool, true, false, not}
use mathlib.Core.Logic.{⊎_elim}
use mathlib.Core.List.{List}
use Prim.Native.Nat.{ℕ, zero, suc, ◌^◌, ◌≤◌, ◌<◌}
use native.Mathlib.Nat.{lt_of_le_of_lt, zero-add, zero-div}
use native.Mathlib.Omega.{arith}
use borrow.Author.Tests.{eqb-true, eq-eqb}
use lib.Bits.{bit_and, bit_xor, and_le_r}
use lib.Dec.{eqb, lit<, lit≤}
use lib.ListN.{length, get_or}
use Rattle.logic.specs.Rules.{implies, bit, all_below}
use Rattle.logic.specs.Lists.{all_of}
use Rattle.logic.specs.Bit.{bit_of}
use Rattle.logic.proofs.Below.{below}
use Rattle.logic.proofs.Counts.{same_truth, all_below_law}
use Rattle.logic.proofs.Bits.{bit_xor_law, bit_and_law, zero_bits}
use Rattle.gate.specs.Gates.{lawful}
use Rattle.circuit.specs.run.Run.{forwards}
use Rattle.circuit.specs.run.Inner.{columns_after}
use Rattle.circuit.proofs.run.Reversal.{rows_run}
use Rattle.table.specs.layouts.Layouts.{Width, wire_of}
use Rattle.table.specs.Rows.{care_of, value_of, bit_agrees, row_agrees, agrees, at_zero, clean}
use Rattle.table.proofs.Rows.{agrees_at, agrees_all}
use Rattle.columns.specs.Wanted.{column_of, row_bit, columns_of, wanted_of, start_columns, misses, fits, met, all_rows, dirt, tidy}
use Rattle.columns.proofs.Bits.{column_bit, column_lt, row_bit_lt, start_row}

columns_at : (care : Bool) (table : List ℕ) (j : ℕ) → j < 4 → get_or (columns_of care table) j 0 ≡ column_of (row_bit care j) table
unfolding columns_of
columns_at care table zero h = refl
columns_at care table (suc zero) h = refl
columns_at care table (suc (suc zero)) h = refl
columns_at care table (suc (suc (suc zero))) h = refl
columns_at care table (suc (suc (suc (suc j)))) h = absurd (omega arith)

-- the rows of a table are all there is in its columns: computed
abbrev row_in : ℕ → ℕ → Bool
row_in n x = eqb (bit_of x (all_rows n)) 1

whole : (b : ℕ) → b < 2 → bit_and b 1 ≡ b
whole zero h = refl
whole (suc zero) h = refl
whole (suc (suc b)) h = absurd (omega arith)

dirt_lt : (n : ℕ) → all_rows n < 2 ^ 2 ^ n → (column : ℕ) → dirt n column < 2 ^ 2 ^ n
unfolding dirt
dirt_lt n small column = lt_of_le_of_lt (and_le_r column (all_rows n)) small

-- one bit of the test: computed for all bits
abbrev same₁ : ℕ → ℕ → ℕ → Bool
same₁ a b c = eqb (bit_and (bit_xor a b) c) (bit (not (implies (eqb c 1) (eqb a b))))

abbrev same₂ : ℕ → ℕ → Bool
same₂ a b = all_below 2 (same₁ a b)

abbrev same₃ : ℕ → Bool
same₃ a = all_below 2 (same₂ a)

clear : (a b c : ℕ) → a < 2 → b < 2 → c < 2 → bit_and (bit_xor a b) c ≡ bit (not (implies (eqb c 1) (eqb a b)))
clear a b c ha hb hc =
    eqb-true (bit_and (bit_xor a b) c) (bit (not (implies (eqb c 1) (eqb a b)))) (below 2 (same₁ a b) (below 2 (same₂ a) (below 2 same₃ refl a ha) b hb) c hc)

zero_so : (b : Bool) → eqb (bit (not b)) 0 ≡ b
zero_so true = refl
zero_so false = refl

-- bit x of a wire's column is what the wire has at the end of row x
module _ (gs : List ℕ) (hg : all_of (lawful 3 5) gs ≡ true) where
  wire_bit : (w x : ℕ) → w < 5 → x < 16 → bit_of x (get_or (columns_after gs start_columns) w 0) ≡ bit_of w (forwards gs x)
  unfolding start_columns
  wire_bit w x hw hx = rows_run gs start_columns x x hg refl hx (omega arith) (start_row x hx) w hw

  -- so it is with the ancilla's, in the rows of the table
  module _ (n : ℕ) (wide : n < 5) (few : 2 ^ n ≤ 16) (small : all_rows n < 2 ^ 2 ^ n) (ones : all_below (2 ^ n) (row_in n) ≡ true) where
    dirt_bit : (x : ℕ) → x < 2 ^ n → bit_of x (dirt n (get_or (columns_after gs start_columns) n 0)) ≡ bit_of n (forwards gs x)
    unfolding dirt
    dirt_bit x l =
        let c = get_or (columns_after gs start_columns) n 0 in
        bit_and_law x c (all_rows n)
        ∙ ap₂ bit_and (wire_bit n x wide (omega arith)) (eqb-true (bit_of x (all_rows n)) 1 (below (2 ^ n) (row_in n) ones x l))
        ∙ whole (bit_of n (forwards gs x)) (omega arith)

    tidy_one : tidy n (columns_after gs start_columns) ≡ clean n (forwards gs)
    unfolding clean
    tidy_one =
        let d = dirt n (get_or (columns_after gs start_columns) n 0) in
        same_truth (tidy n (columns_after gs start_columns)) (clean n (forwards gs))
        (λ t. all_below_law (at_zero n (forwards gs)) (2 ^ n)
        (λ x l. eq-eqb (bit_of n (forwards gs x)) 0 (sym (dirt_bit x l) ∙ rw (eqb-true d 0 t, zero-div (2 ^ x)))))
        (λ t. eq-eqb d 0 (zero_bits (2 ^ n) d (dirt_lt n small (get_or (columns_after gs start_columns) n 0))
        (λ x l. dirt_bit x l ∙ eqb-true (bit_of n (forwards gs x)) 0 (below (2 ^ n) (at_zero n (forwards gs)) t x l))))

  pub tidy_clean : (n : ℕ) → Width n → tidy n (columns_after gs start_columns) ≡ clean n (forwards gs)
  tidy_clean n width =
      ⊎_elim
      (λ (e : n ≡ 3). rw e (tidy_one 3 (lit< tt) (lit≤ tt) (lit< tt) refl))
      (λ (e : n ≡ 4). rw e (tidy_one 4 (lit< tt) (lit≤ tt) (lit< tt) refl))
      width

module _ (rows gs : List ℕ) (few : length rows ≤ 16) (hg : all_of (lawful 3 5) gs ≡ true) (p : ℕ) where
  wanted_bit_law : (care : Bool) (j x : ℕ) → j < 4 → x < length rows → bit_of x (get_or (columns_of care rows) j 0) ≡ row_bit care j (get_or rows x 0)
  wanted_bit_law care j x h l = ap (bit_of x) (columns_at care rows j h) ∙ column_bit (row_bit care j) (row_bit_lt care j) rows x l

  module _ (j : ℕ) (h : j < 4) where
    abbrev pub missing : ℕ
    missing = misses (wanted_of rows) (get_or (columns_after gs start_columns) (wire_of p j) 0) j

    -- of the rows that miss the output, bit x is 1 where row x does not agree there
    pub miss_is : (x : ℕ) → x < length rows → bit_of x missing ≡ bit (not (bit_agrees p (get_or rows x 0) (forwards gs x) j))
    unfolding misses wanted_of bit_agrees row_bit
    miss_is x l =
        let row = get_or rows x 0 in
        let c = get_or (columns_after gs start_columns) (wire_of p j) 0 in
        let v = get_or (columns_of false rows) j 0 in
        let m = get_or (columns_of true rows) j 0 in
        bit_and_law x (bit_xor c v) m
        ∙ ap₂ bit_and (bit_xor_law x c v ∙ ap₂ bit_xor (wire_bit gs hg (wire_of p j) x (omega arith) (omega arith)) (wanted_bit_law false j x h l)) (wanted_bit_law true j x h l)
        ∙ clear (bit_of (wire_of p j) (forwards gs x)) (bit_of j (value_of row)) (bit_of j (care_of row)) (omega arith) (omega arith) (omega arith)

    miss_bit : (x : ℕ) → x < length rows → eqb (bit_of x missing) 0 ≡ bit_agrees p (get_or rows x 0) (forwards gs x) j
    miss_bit x l = ap (λ n. eqb n 0) (miss_is x l) ∙ zero_so (bit_agrees p (get_or rows x 0) (forwards gs x) j)

    pub miss_lt : missing < 2 ^ length rows
    unfolding misses wanted_of
    miss_lt =
        let c = get_or (columns_after gs start_columns) (wire_of p j) 0 in
        let v = get_or (columns_of false rows) j 0 in
        lt_of_le_of_lt (and_le_r (bit_xor c v) (get_or (columns_of true rows) j 0))
        (rw (columns_at true rows j h) (column_lt (row_bit true j) (row_bit_lt true j) rows))

    fits_agrees : fits (wanted_of rows) (columns_after gs start_columns) p j ≡ true → (x : ℕ) → x < length rows → bit_agrees p (get_or rows x 0) (forwards gs x) j ≡ true
    fits_agrees t x l = sym (miss_bit x l) ∙ eq-eqb (bit_of x missing) 0 (rw (eqb-true missing 0 t, zero-div (2 ^ x)))

    agrees_fits : ((x : ℕ) → x < length rows → bit_agrees p (get_or rows x 0) (forwards gs x) j ≡ true) → fits (wanted_of rows) (columns_after gs start_columns) p j ≡ true
    agrees_fits a = eq-eqb missing 0 (zero_bits (length rows) missing miss_lt (λ x l. eqb-true (bit_of x missing) 0 (miss_bit x l ∙ a x l)))

  pub met_agrees : met (wanted_of rows) (columns_after gs start_columns) p ≡ agrees p (forwards gs) rows
  unfolding met row_agrees
  met_agrees =
      same_truth (met (wanted_of rows) (columns_after gs start_columns) p) (agrees p (forwards gs) rows)
      (λ t. agrees_all p (forwards gs) 0 rows
      (λ x l. rw (zero-add x) (all_below_law (bit_agrees p (get_or rows x 0) (forwards gs x)) 4
      (λ j h. fits_agrees j h (below 4 (fits (wanted_of rows) (columns_after gs start_columns) p) t j h) x l))))
      (λ t. all_below_law (fits (wanted_of rows) (columns_after gs start_columns) p) 4
      (λ j h. agrees_fits j h
      (λ x l. below 4 (bit_agrees p (get_or rows x 0) (forwards gs x)) (rw (zero-add x) at (agrees_at p (forwards gs) rows 0 x t l)) j h)))
