-- A stuck node begins no way to finish with at most k more gates.
use mathlib.Core.Path.{◌≡◌, refl, sym, ap, ◌∙◌}
use mathlib.Core.Bool.{Bool, true, false, not, false≢true}
use mathlib.Core.List.{List, [], ◌∷◌, Memᴰ}
use Prim.Native.Nat.{ℕ, ◌≤◌, ◌<◌}
use native.Mathlib.Decide.{ℕ_discrete}
use native.Mathlib.Omega.{arith}
use borrow.Author.Tests.{eqb-true, eq-eqb, ne_eqb, eqb-false, ltb-true, le-leb, not-true}
use lib.Bits.{bit_and, bit_xor, xor_zero_r}
use lib.Count.{ones}
use lib.Dec.{eqb}
use lib.ListN.{length, get_or}
use lib.Seq.{get_or-set_same}
use Rattle.logic.specs.Rules.{both, pick, bit, some_below}
use Rattle.logic.specs.Bit.{bit_of}
use Rattle.logic.proofs.Chain.{both_left, both_right, both_true, either_neither}
use Rattle.logic.proofs.Counts.{count_more, some_at}
use Rattle.logic.proofs.Xor.{xor_mends}
use Rattle.gate.specs.Gates.{target_of, mask_of, lawful, gate_of}
use Rattle.gate.specs.Inner.{column_step}
use Rattle.gate.proofs.Widen.{parts}
use Rattle.table.specs.layouts.Layouts.{Width, wire_of, layouts_for}
use Rattle.table.proofs.layouts.Layouts.{wire_within, wire_fixed}
use Rattle.columns.specs.declared.Wanted.{Wanted}
use Rattle.columns.specs.Wanted.{misses, all_rows, dirt, tidy}
use Rattle.columns.specs.Finish.{Finish}
use Rattle.outputs.specs.Owed.{missed, alone, owed, lost, up_to, product, adds, mendable_on, mendable, cleanable, fixable, stuck}
use Rattle.outputs.proofs.Few.{missed_on, left_on, missed_kept, tidy_kept, alone_missed, not_four, left_few, lost_few, finish_next, first_lawful}

-- what a gate adds is among what gates of as many controls may add
adds_gate : (k g : ℕ) (cs : List ℕ) (care want : ℕ) → lawful k 5 g ≡ true → bit_and (product cs (mask_of g)) care ≡ want → adds (up_to k) cs (target_of g) care want ≡ true
unfolding adds
adds_gate k g cs care want hg e =
    let q = parts k 5 g hg in
    some_at (λ m. both (up_to k (ones m)) (both (eqb (bit_of (target_of g) m) 0) (eqb (bit_and (product cs m) care) want))) 32 (mask_of g) q.mask
    (both_true (le-leb (ones (mask_of g)) k q.few) (both_true (eq-eqb (bit_of (target_of g) (mask_of g)) 0 q.apart) (eq-eqb _ _ e)))

module _ (k : ℕ) (t : Wanted) (n free p : ℕ) (width : Width n) (m : Memᴰ p (layouts_for n free)) (cs : List ℕ) where
  mendable_at : (j : ℕ) → j < n → mendable_on (up_to k) t cs (wire_of p j) j ≡ true → mendable (up_to k) t cs n free ≡ true
  unfolding mendable
  mendable_at j l h = by_free (ℕ_discrete free 1)
    where
      by_free : Dec (free ≡ 1) → some_below n (λ w. pick (eqb free 1) (some_below n (mendable_on (up_to k) t cs w)) (mendable_on (up_to k) t cs w w)) ≡ true
      by_free (yes e) = some_at _ n (wire_of p j) (wire_within n free p width m j l) (rw (eq-eqb free 1 e) (some_at (mendable_on (up_to k) t cs (wire_of p j)) n j l h))
      by_free (no f) = some_at _ n j l (rw (ne_eqb free 1 f) (rw (wire_fixed n free p width m f j l) at h))

  module _ (g : ℕ) (hg : lawful k 5 g ≡ true) (five : length cs ≡ 5) where
    -- a gate that puts an output right on its target adds the rows that missed it
    gate_mends : (j : ℕ) → missed t cs (target_of g) j ≡ true → misses t (get_or (column_step (gate_of g) cs) (target_of g) 0) j ≡ 0 → mendable_on (up_to k) t cs (target_of g) j ≡ true
    unfolding mendable_on misses column_step gate_of
    gate_mends j h z =
        let q = parts k 5 g hg in
        let care = get_or t.care j 0 in
        let f = product cs (mask_of g) in
        let s = get_or-set_same cs (target_of g) (bit_xor (get_or cs (target_of g) 0) f) 0 (omega (arith, q.target)) in
        both_true h (adds_gate k g cs care (misses t (get_or cs (target_of g) 0) j) hg (xor_mends care (get_or cs (target_of g) 0) f (get_or t.value j 0) (rw s at z)))

    still_missed : mendable (up_to k) t cs n free ≡ false → (j : ℕ) → j < n → alone t cs n free 4 j ≡ true → missed t (column_step (gate_of g) cs) (wire_of p j) j ≡ true
    unfolding gate_of
    still_missed u j l h = by_wire (ℕ_discrete (wire_of p j) (target_of g))
      where
        now : missed t cs (wire_of p j) j ≡ true
        now = alone_missed t n free p width m cs 4 j l h (not_four t n free p width m j l)

        by_right : wire_of p j ≡ target_of g → Dec (misses t (get_or (column_step (gate_of g) cs) (wire_of p j) 0) j ≡ 0) → missed t (column_step (gate_of g) cs) (wire_of p j) j ≡ true
        by_right s (no f) = rw (ne_eqb _ 0 f)
        by_right s (yes z) = absurd (false≢true (sym u ∙ mendable_at j l (rw s (gate_mends j (rw s at now) (rw s at z)))))

        by_wire : Dec (wire_of p j ≡ target_of g) → missed t (column_step (gate_of g) cs) (wire_of p j) j ≡ true
        by_wire (yes s) = by_right s (ℕ_discrete (misses t (get_or (column_step (gate_of g) cs) (wire_of p j) 0) j) 0)
        by_wire (no f) = rw (missed_kept t (gate_of g) cs (wire_of p j) j f) now

    -- a gate that puts the ancilla at 0 adds the rows in which it was not
    gate_cleans : n ≡ target_of g → not (tidy n cs) ≡ true → dirt n (get_or (column_step (gate_of g) cs) n 0) ≡ 0 → cleanable (up_to k) cs n ≡ true
    unfolding cleanable dirt column_step gate_of
    gate_cleans e h z =
        let q = parts k 5 g hg in
        let a = get_or cs n 0 in
        let f = product cs (mask_of g) in
        let s = get_or-set_same cs n (bit_xor a f) 0 (omega (arith, q.target)) in
        let x = rw (← e, s) at z in
        let y = xor_mends (all_rows n) a f 0 (ap (λ c. bit_and c (all_rows n)) (xor_zero_r (bit_xor a f)) ∙ x)
        ∙ ap (λ c. bit_and c (all_rows n)) (xor_zero_r a) in
        both_true h (ap (λ w. adds (up_to k) cs w (all_rows n) (bit_and a (all_rows n))) e ∙ adds_gate k g cs (all_rows n) (bit_and a (all_rows n)) hg y)

    still_dirty : cleanable (up_to k) cs n ≡ false → bit (not (tidy n cs)) ≤ bit (not (tidy n (column_step (gate_of g) cs)))
    unfolding gate_of
    still_dirty u = by_wire (ℕ_discrete n (target_of g))
      where
        by_now : n ≡ target_of g → (a b : Bool) → tidy n cs ≡ a → tidy n (column_step (gate_of g) cs) ≡ b → bit (not a) ≤ bit (not b)
        by_now e true b h k = omega arith
        by_now e false false h k = omega arith
        by_now e false true h k = absurd (false≢true (sym u ∙ gate_cleans e (ap not h) (eqb-true _ 0 k)))

        by_wire : Dec (n ≡ target_of g) → bit (not (tidy n cs)) ≤ bit (not (tidy n (column_step (gate_of g) cs)))
        by_wire (yes e) = by_now e (tidy n cs) (tidy n (column_step (gate_of g) cs)) refl refl
        by_wire (no f) = rw (tidy_kept (gate_of g) cs n f) (omega arith)

    lost_left : fixable (up_to k) t cs n free ≡ false → lost t cs n free ≤ left_on t n p (column_step (gate_of g) cs)
    unfolding lost owed fixable
    lost_left u =
        let v = either_neither (cleanable (up_to k) cs n) (mendable (up_to k) t cs n free) u in
        omega (
          arith,
          count_more (alone t cs n free 4) (missed_on t p (column_step (gate_of g) cs)) n (still_missed v.1),
          still_dirty v.0,
        )

-- where no gate mends an output or the ancilla, a way to finish has one gate more than are missed
one_more : (k : ℕ) (t : Wanted) (n free : ℕ) (cs e : List ℕ) (p : ℕ) → Finish k t n free cs e p → fixable (up_to k) t cs n free ≡ false → 0 < lost t cs n free
    → lost t cs n free < length e
one_more k t n free cs [] p f u h = omega (arith, lost_few k t n free cs [] p f)
one_more k t n free cs (g ∷ e) p f u h =
    omega (
      arith,
      lost_left k t n free p f.width f.laid cs g (first_lawful k t n free cs g e p f) f.five u,
      left_few k t n free (column_step (gate_of g) cs) e p (finish_next k t n free cs g e p f),
    )

pub stuck_none : (k : ℕ) (t : Wanted) (n free : ℕ) (cs e : List ℕ) (p most : ℕ) → Finish k t n free cs e p → stuck k t cs n free most ≡ true → length e ≤ most → ⊥
unfolding stuck
stuck_none k t n free cs e p most f u le = by_size (ℕ_discrete (lost t cs n free) most)
  where
    some : Bool
    some = fixable (up_to k) t cs n free

    by_size : Dec (lost t cs n free ≡ most) → ⊥
    by_size (yes s) =
        let b = rw (eq-eqb (lost t cs n free) most s) at u in
        let z = eqb-false most 0 (not-true (eqb most 0) (both_left (not (eqb most 0)) (not some) b)) in
        omega (arith, one_more k t n free cs e p f (not-true some (both_right (not (eqb most 0)) (not some) b)) (omega arith))
    by_size (no s) = omega (arith, ltb-true most (lost t cs n free) (rw (ne_eqb (lost t cs n free) most s) at u), lost_few k t n free cs e p f)
