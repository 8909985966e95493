-- The table test for a loop over the rows: one row and then the rest, and nothing at the end. What agreeing and realizing say of each row.
use mathlib.Core.Path.{◌≡◌, refl, sym, ap, ◌∙◌, subst}
use mathlib.Core.List.Memᴰ
use mathlib.Core.List.{[], ◌∷◌, List, Memᴰ}
use mathlib.Core.Bool.{true}
use Prim.Native.Nat.{zero, suc, ℕ, ◌+◌, ◌%◌, ◌^◌, ◌<◌}
use native.Mathlib.Nat.{not-suc-le-zero, le_of_suc-le-suc, add-zero, add-suc, suc-add, div-eq_of_lt}
use native.Mathlib.Numerals.{add-one}
use native.Mathlib.Omega.{arith}
use borrow.Author.Tests.{eqb-true, eq-eqb, ne_eqb}
use Rattle.std.specs.List.{list_all, enumerate_from}
use Rattle.logic.proofs.Chains.{and_both}
use lib.Dec.{eqb}
use lib.ListN.{length, get_or}
use Rattle.logic.specs.Rules.{pick}
use Rattle.logic.specs.Lists.{all_of}
use Rattle.logic.specs.Bit.{bit_of}
use Rattle.logic.proofs.Chain.{both_left, both_right, both_true, implied}
use Rattle.logic.proofs.Below.{below}
use Rattle.logic.proofs.Counts.{same_truth, all_below_law}
use Rattle.gate.specs.Gates.{lawful}
use Rattle.circuit.specs.run.Run.{forwards}
use Rattle.circuit.proofs.run.Reversal.{stays}
use Rattle.table.specs.layouts.Layouts.{wire_of}
use Rattle.table.specs.Rows.{care_of, value_of, bit_agrees, row_agrees, agrees_from, agrees, at_zero, clean, realizes, row_of}
use mathlib.Core.Logic.{⊎_elim}
use native.Mathlib.Decide.{ℕ_discrete}

-- the rows tested in turn, each with its number
pub agrees_in_turn : (p : ℕ) (ends : ℕ → ℕ) (x : ℕ) (table : List ℕ)
    → list_all (λ (q : ℕ × ℕ). row_agrees p q.1 (ends q.0)) (enumerate_from x table) ≡ agrees_from p ends x table
unfolding agrees_from
agrees_in_turn p ends x [] = refl
agrees_in_turn p ends x (row ∷ table) = rw (agrees_in_turn p ends (x + 1) table, add-one) (and_both (row_agrees p row (ends x)) _)

-- a list that agrees with a table does so in each row, on each wanted bit
pub agrees_at : (p : ℕ) (ends : ℕ → ℕ) (table : List ℕ) (i x : ℕ) → agrees_from p ends i table ≡ true → x < length table
    → row_agrees p (get_or table x 0) (ends (i + x)) ≡ true
unfolding agrees_from
agrees_at p ends [] i x h k = absurd (not-suc-le-zero k)
agrees_at p ends (row ∷ table) i zero h k =
    rw (add-zero i) (both_left (row_agrees p row (ends i)) (agrees_from p ends (suc i) table) h)
agrees_at p ends (row ∷ table) i (suc x) h k =
    subst (λ (y : ℕ). row_agrees p (get_or table x 0) (ends y) ≡ true) (suc-add i x ∙ sym (add-suc i x))
    (agrees_at p ends table (suc i) x (both_right (row_agrees p row (ends i)) (agrees_from p ends (suc i) table) h) (le_of_suc-le-suc k))

pub bit_at : (p row v j : ℕ) → row_agrees p row v ≡ true → j < 4 → bit_of j (care_of row) ≡ 1 → bit_of (wire_of p j) v ≡ bit_of j (value_of row)
unfolding row_agrees bit_agrees
bit_at p row v j h k c =
    eqb-true (bit_of (wire_of p j) v) (bit_of j (value_of row))
    (implied (eqb (bit_of j (care_of row)) 1) (eqb (bit_of (wire_of p j) v) (bit_of j (value_of row))) (below 4 (bit_agrees p row v) h j k)
    (eq-eqb (bit_of j (care_of row)) 1 c))

-- a list that agrees in each row agrees with the table
pub agrees_all : (p : ℕ) (ends : ℕ → ℕ) (x : ℕ) (table : List ℕ)
    → ((i : ℕ) → i < length table → row_agrees p (get_or table i 0) (ends (x + i)) ≡ true) → agrees_from p ends x table ≡ true
unfolding agrees_from
agrees_all p ends x [] h = refl
agrees_all p ends x (row ∷ table) h =
    let e : x ≡ x + 0 = omega arith in
    both_true (ap (λ n. row_agrees p row (ends n)) e ∙ h 0 (omega arith))
    (agrees_all p ends (suc x) table
    (λ i l. let e : suc x + i ≡ x + suc i = omega arith in ap (λ n. row_agrees p (get_or table i 0) (ends n)) e ∙ h (suc i) (omega arith)))

-- a list realizes the rows exactly if it agrees with them and is clean
module _ (n : ℕ) (rows : List ℕ) (p : ℕ) (gs : List ℕ) where
  pub realizes_agrees : realizes n rows p gs ≡ true → agrees p (forwards gs) rows ≡ true
  unfolding realizes
  realizes_agrees h = both_left (agrees p (forwards gs) rows) (clean n (forwards gs)) h

  pub realizes_clean : realizes n rows p gs ≡ true → clean n (forwards gs) ≡ true
  unfolding realizes
  realizes_clean h = both_right (agrees p (forwards gs) rows) (clean n (forwards gs)) h

  pub agrees_realizes : agrees p (forwards gs) rows ≡ true → clean n (forwards gs) ≡ true → realizes n rows p gs ≡ true
  unfolding realizes
  agrees_realizes h c = both_true h c

-- without an ancilla no gate is on wire n, so every list is clean, and to realize a table is to agree with it
module _ (k n : ℕ) (gs : List ℕ) (bare : all_of (lawful k n) gs ≡ true) where
  pub bare_clean : clean n (forwards gs) ≡ true
  unfolding clean
  bare_clean =
      all_below_law (at_zero n (forwards gs)) (2 ^ n)
      (λ x l. eq-eqb (bit_of n (forwards gs x)) 0 (ap (λ v. v % 2) (div-eq_of_lt (stays k n gs x bare l))))

  pub bare_realizes : (rows : List ℕ) (p : ℕ) → realizes n rows p gs ≡ agrees p (forwards gs) rows
  bare_realizes rows p =
      same_truth (realizes n rows p gs) (agrees p (forwards gs) rows) (realizes_agrees n rows p gs)
      (λ h. agrees_realizes n rows p gs h bare_clean)

-- the row that is found for a value has that value
pub row_of_is : (x : ℕ) (l : List ℕ) → Memᴰ x l → (row_of x l < length l) × (get_or l (row_of x l) 0 ≡ x)
unfolding row_of
row_of_is x [] m = absurd (Memᴰ.not-nil m)
row_of_is x (y ∷ l) m = by_first (ℕ_discrete y x) (row_of_is x l)
  where
    by_first : Dec (y ≡ x) → (Memᴰ x l → (row_of x l < length l) × (get_or l (row_of x l) 0 ≡ x))
        → (pick (eqb y x) 0 (suc (row_of x l)) < suc (length l)) × (get_or (y ∷ l) (pick (eqb y x) 0 (suc (row_of x l))) 0 ≡ x)
    by_first (yes e) rest = rw (eq-eqb y x e) (omega arith, e)
    by_first (no n) rest =
        let k = rest (⊎_elim (λ (e : x ≡ y). absurd (n (sym e))) (λ (i : Memᴰ x l). i) (Memᴰ.cases_cons m)) in
        rw (ne_eqb y x n) (omega (arith, k.0), k.1)
