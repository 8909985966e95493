-- Misses by columns: the bits of each output's column that are missed, counted, are those that the rows miss.
use mathlib.Core.Path.{◌≡◌, refl, sym, ap, ap₂, ◌∙◌}
use mathlib.Core.Bool.{true, not}
use mathlib.Core.List.{List, [], ◌∷◌}
use Prim.Native.Nat.{ℕ, suc, ◌+◌, ◌/◌, ◌^◌, ◌≤◌, ◌<◌}
use native.Mathlib.Nat.{zero-add}
use native.Mathlib.Omega.{arith}
use lib.Count.{ones, ones_in, ones_step}
use lib.Dec.{leb, lit<}
use lib.ListN.{length, get_or}
use Rattle.logic.specs.Rules.{both, bit}
use Rattle.logic.specs.Lists.{all_of}
use Rattle.logic.specs.Bit.{bit_of}
use Rattle.logic.proofs.Bits.{pow-suc, bit_half}
use Rattle.gate.specs.Gates.{lawful}
use Rattle.circuit.specs.run.Run.{forwards}
use Rattle.circuit.specs.run.Inner.{columns_after}
use Rattle.table.specs.layouts.Layouts.{Width}
use Rattle.table.specs.Rows.{bit_agrees}
use Rattle.columns.specs.Wanted.{wanted_of, start_columns}
use Rattle.columns.proofs.Agreement.{missing, miss_is, miss_lt, tidy_clean}
use Rattle.near_misses.specs.misses.Misses.{row_misses, misses_from, missed_bits, approximates}
use Rattle.near_misses.specs.misses.Columns.{missed_by, missed_for, missed_on, nearly}

-- what rows from number x on give, added up
unfoldable tally : (ℕ → ℕ → ℕ) → ℕ → List ℕ → ℕ
tally f x [] = 0
tally f x (row ∷ rows) = f x row + tally f (suc x) rows

-- the ones of a number whose bit x is what row x gives
ones_tally : (f : ℕ → ℕ → ℕ) (x : ℕ) (rows : List ℕ) (v : ℕ) → v < 2 ^ length rows
    → ((i : ℕ) → i < length rows → bit_of i v ≡ f (x + i) (get_or rows i 0)) → ones v ≡ tally f x rows
unfolding tally ones ones_in
ones_tally f x [] v h bits = let e : v ≡ 0 = omega arith in rw e
ones_tally f x (row ∷ rows) v h bits =
    let l = rw (pow-suc (length rows)) at h in
    let e : x + 0 ≡ x = omega arith in
    let low : bit_of 0 v ≡ f x row = bits 0 (omega arith) ∙ ap (λ (y : ℕ). f y row) e in
    let rest = ones_tally f (suc x) rows (v / 2) (omega arith)
    (λ i hi.
    let s : x + suc i ≡ suc x + i = omega arith in
    sym (bit_half i v) ∙ bits (suc i) (omega arith) ∙ ap (λ (y : ℕ). f y (get_or rows i 0)) s) in
    omega (arith, ones_step v, rest, low)

abbrev miss_at : ℕ → (ℕ → ℕ) → ℕ → ℕ → ℕ → ℕ
miss_at p ends j x row = bit (not (bit_agrees p row (ends x) j))

-- output by output
by_output : (p : ℕ) (ends : ℕ → ℕ) (x : ℕ) (rows : List ℕ)
    → misses_from p ends x rows ≡ tally (miss_at p ends 3) x rows + (tally (miss_at p ends 2) x rows + (tally (miss_at p ends 1) x rows + tally (miss_at p ends 0) x rows))
unfolding misses_from row_misses tally
by_output p ends x [] = refl
by_output p ends x (row ∷ rows) = omega (arith, by_output p ends (suc x) rows)

module _ (rows gs : List ℕ) (few : length rows ≤ 16) (hg : all_of (lawful 3 5) gs ≡ true) (p : ℕ) where
  output_is : (j : ℕ) → j < 4 → missed_for (wanted_of rows) (columns_after gs start_columns) p j ≡ tally (miss_at p (forwards gs) j) 0 rows
  unfolding missed_by
  output_is j h =
      ones_tally (miss_at p (forwards gs) j) 0 rows (missing rows gs few hg p j h) (miss_lt rows gs few hg p j h)
      (λ i l. rw (zero-add i) (miss_is rows gs few hg p j h i l))

  counted : missed_on (wanted_of rows) (columns_after gs start_columns) p ≡ missed_bits rows p gs
  unfolding missed_on
  counted =
      ap₂ ◌+◌ (output_is 3 (lit< tt)) (ap₂ ◌+◌ (output_is 2 (lit< tt)) (ap₂ ◌+◌ (output_is 1 (lit< tt)) (output_is 0 (lit< tt))))
      ∙ sym (by_output p (forwards gs) 0 rows)

  -- the test of columns is the test of rows
  pub columned : (n k : ℕ) → Width n → approximates n rows k p gs ≡ nearly (wanted_of rows) n k (columns_after gs start_columns) p
  unfolding approximates nearly
  columned n k width = ap₂ both (ap (λ (m : ℕ). leb m k) (sym counted)) (sym (tidy_clean gs hg n width))
