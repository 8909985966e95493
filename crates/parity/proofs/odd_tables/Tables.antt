-- From rows to parity: a list and a layout that realize a full table permute the rows as the table does.
use mathlib.Core.Path.{◌≡◌, refl, sym, ap, ◌∙◌}
use mathlib.Core.Bool.{Bool, true}
use mathlib.Core.List.{List, [], ◌∷◌, map}
use Prim.Native.Nat.{ℕ, suc, ◌+◌, ◌*◌, ◌-◌, ◌%◌, ◌^◌, ◌<◌}
use native.Mathlib.Omega.{arith}
use native.Mathlib.Nat.{zero-add}
use borrow.Author.Tests.{eqb-true}
use lib.Dec.{eqb, lit<}
use lib.ListN.{length, get_or}
use Rattle.logic.specs.Rules.{all_below}
use Rattle.logic.specs.Lists.{all_of, numbers_from}
use Rattle.logic.specs.Bit.{bit_of}
use Rattle.logic.proofs.Chain.{both_left}
use Rattle.logic.proofs.Below.{below}
use Rattle.logic.proofs.Fold.{all_at}
use Rattle.gate.specs.Gates.{lawful}
use Rattle.circuit.specs.run.Run.{forwards}
use Rattle.table.specs.Rows.{care_of, value_of}
use Rattle.record.specs.job_fields.Jobs.{data_wires, rows}
use Rattle.table.specs.layouts.Layouts.{wire_of, layout_ok}
use Rattle.parity.specs.Parity.{odd, table_parity, values, full_row, full, distinct, permutes, inversions}
use Rattle.parity.specs.odd_tables.Ends.{three_control_gates}
use Rattle.parity.specs.odd_tables.Inner.{laid_out}
use Rattle.parity.proofs.Odd.{odd_parts}
use Rattle.parity.proofs.odd_tables.Even.{layout_parity}

-- a table row by row
pub values_are : (f : ℕ → ℕ) (rs : List ℕ) (i : ℕ) → ((x : ℕ) → x < length rs → value_of (get_or rs x 0) ≡ f (i + x))
    → map value_of rs ≡ map f (numbers_from i (length rs))
values_are f [] i h = refl
values_are f (r ∷ rs) i h =
    let first : value_of r ≡ f i = h 0 (omega arith) ∙ ap f (omega arith) in
    let rest = values_are f rs (suc i) (λ x k. h (suc x) (omega arith) ∙ ap f (omega arith)) in
    cc

-- a value of four bits, bit by bit
abbrev from_bits : ℕ → Bool
from_bits t = eqb t (bit_of 0 t + 2 * bit_of 1 t + 4 * bit_of 2 t + 8 * bit_of 3 t)

from_bits_law : all_below 16 from_bits ≡ true
from_bits_law = refl

pub bits_laid_out : (p v t : ℕ) → t < 16 → ((j : ℕ) → j < 4 → bit_of (wire_of p j) v ≡ bit_of j t) → t ≡ laid_out p v
unfolding laid_out
bits_laid_out p v t ht h =
    rw (h 0 (lit< tt), h 1 (lit< tt), h 2 (lit< tt), h 3 (lit< tt)) (eqb-true t _ (below 16 from_bits from_bits_law t ht))

module _ (rs gs : List ℕ) (p : ℕ) (size : length rs ≡ 16) (met : (x : ℕ) → x < 16 → value_of (get_or rs x 0) ≡ laid_out p (forwards gs x)) where
  pub rows_are : map value_of rs ≡ map (λ x. laid_out p (forwards gs x)) (numbers_from 0 16)
  rows_are =
      values_are (λ x. laid_out p (forwards gs x)) rs 0 (λ x h. met x (omega arith)
      ∙ ap (λ (y : ℕ). laid_out p (forwards gs y)) (sym (zero-add x)))
      ∙ ap (λ (n : ℕ). map (λ x. laid_out p (forwards gs x)) (numbers_from 0 n)) size

  pub rows_parity : all_of (lawful 3 4) gs ≡ true → p < 256 → layout_ok 4 p ≡ true → inversions (map value_of rs) % 2 ≡ three_control_gates gs % 2
  rows_parity h hp ok = rw rows_are (layout_parity gs p h hp ok)

module _ (job : List ℕ) (is_odd : table_parity job ≡ odd) where
  found : (permutes job ≡ true) × (eqb (inversions (values job) % 2) 1 ≡ true)
  unfolding table_parity
  found = odd_parts (permutes job) (eqb (inversions (values job) % 2) 1) is_odd

  -- an odd table wants every bit
  pub odd_full : (x : ℕ) → x < length (rows job) → care_of (get_or (rows job) x 0) ≡ 2 ^ data_wires job - 1
  unfolding permutes full
  odd_full x hx =
      let wide = both_left (full job) (distinct (values job)) found.0 in
      eqb-true _ _ (all_at (full_row (data_wires job)) (rows job) x 0 wide hx)

  -- a list that makes an odd table on four wires has an odd number of three-control gates, whatever its length and the layout
  pub odd_made : (gs : List ℕ) (p : ℕ) → length (rows job) ≡ 16 → all_of (lawful 3 4) gs ≡ true → p < 256 → layout_ok 4 p ≡ true
      → ((x : ℕ) → x < 16 → (j : ℕ) → j < 4 → bit_of (wire_of p j) (forwards gs x) ≡ bit_of j (value_of (get_or (rows job) x 0)))
      → three_control_gates gs % 2 ≡ 1
  odd_made gs p size h hp ok met =
      let e = rows_parity (rows job) gs p size
      (λ x hx. bits_laid_out p (forwards gs x) (value_of (get_or (rows job) x 0)) (omega arith) (met x hx)) h hp ok in
      sym e ∙ eqb-true (inversions (values job) % 2) 1 found.1
