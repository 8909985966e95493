-- The theorems on odd tables: with four data wires, no ancilla and a fully given odd permutation, a list of any length that realizes the
-- table holds a three-control gate, whatever the layout; so no list of gates of at most two controls realizes it.
use mathlib.Core.Path.{◌≡◌, refl, ap, ◌∙◌}
use mathlib.Core.Bool.{Bool, true, false}
use mathlib.Core.List.{List}
use Prim.Native.Nat.{ℕ, ◌-◌, ◌%◌, ◌^◌, ◌<◌, ◌≤◌}
use native.Mathlib.Nat.{zero-add}
use native.Mathlib.Omega.{arith}
use borrow.Author.Tests.{eqb-true}
use lib.Dec.{eqb, lit≤}
use lib.ListN.{length, get_or}
use Rattle.logic.specs.Lists.{all_of}
use Rattle.logic.specs.Bit.{bit_of}
use Rattle.logic.proofs.Chain.{not_so}
use Rattle.logic.proofs.Below.{below}
use Rattle.gate.specs.Gates.{lawful}
use Rattle.gate.proofs.Tables.{all_widen}
use Rattle.circuit.specs.run.Run.{forwards}
use Rattle.table.specs.layouts.Layouts.{layout_ok}
use Rattle.table.specs.Rows.{care_of, realizes}
use Rattle.table.proofs.Rows.{agrees_at, bit_at, realizes_agrees}
use Rattle.record.specs.JobRules.{job_code}
use Rattle.record.specs.job_fields.Jobs.{data_wires, rows}
use Rattle.record.proofs.Kept.{sound_job}
use Rattle.parity.specs.Parity.{odd, table_parity}
use Rattle.parity.specs.odd_tables.Ends.{three_control_gates}
use Rattle.parity.proofs.odd_tables.Even.{none_of_three}
use Rattle.parity.proofs.odd_tables.Tables.{odd_full, odd_made}

abbrev wanted_bit : ℕ → Bool
wanted_bit j = eqb (bit_of j 15) 1

module _ (job : List ℕ) (sound : job_code job ≡ 0) (four : data_wires job ≡ 4) (is_odd : table_parity job ≡ odd) where
  sixteen : length (rows job) ≡ 16
  sixteen = (sound_job job sound).rows_many ∙ ap (λ (n : ℕ). 2 ^ n) four

  care : (x : ℕ) → x < 16 → care_of (get_or (rows job) x 0) ≡ 15
  care x hx = odd_full job is_odd x (omega (arith, sixteen)) ∙ ap (λ (n : ℕ). 2 ^ n - 1) four

  odd_number : (gs : List ℕ) (p : ℕ) → all_of (lawful 3 4) gs ≡ true → p < 256 → layout_ok 4 p ≡ true → realizes 4 (rows job) p gs ≡ true
      → three_control_gates gs % 2 ≡ 1
  odd_number gs p h hp ok e =
      odd_made job is_odd gs p sixteen h hp ok (λ x hx j hj.
      bit_at p (get_or (rows job) x 0) (forwards gs x) j
      (rw (zero-add x) at (agrees_at p (forwards gs) (rows job) 0 x (realizes_agrees 4 (rows job) p gs e) (omega (arith, sixteen))))
      hj
      (ap (bit_of j) (care x hx) ∙ eqb-true (bit_of j 15) 1 (below 4 wanted_bit refl j hj)))

  -- for the caller of a longer job: an odd table needs such a gate
  pub odd_needs_three : (gs : List ℕ) (p : ℕ) → all_of (lawful 3 4) gs ≡ true → p < 256 → layout_ok 4 p ≡ true
      → realizes 4 (rows job) p gs ≡ true
      → 1 ≤ three_control_gates gs
  odd_needs_three gs p h hp ok e = omega (arith, odd_number gs p h hp ok e)

  -- a shorter job has none
  pub none_realizes : (gs : List ℕ) (p : ℕ) → all_of (lawful 2 4) gs ≡ true → p < 256 → layout_ok 4 p ≡ true
      → realizes 4 (rows job) p gs ≡ false
  none_realizes gs p h hp ok =
      not_so (realizes 4 (rows job) p gs) (λ e.
      omega (arith, odd_needs_three gs p (all_widen 2 4 3 4 (lit≤ tt) (lit≤ tt) gs h) hp ok e, none_of_three gs h))
