-- A gate that is not worth a try begins no way to finish with the gates that are left.
use mathlib.Core.Path.{◌≡◌, sym, ap, ◌∙◌}
use mathlib.Core.Logic.{◌⊎◌, inl, inr}
use mathlib.Core.Bool.{Bool, true, false, not}
use mathlib.Core.List.{List, ◌∷◌, Memᴰ}
use Prim.Native.Nat.{ℕ, suc, ◌+◌, ◌≤◌, ◌<◌}
use native.Mathlib.Decide.{ℕ_discrete}
use native.Mathlib.Omega.{arith}
use borrow.Author.Tests.{eq-eqb, ne_eqb, ltb-false, lt-ltb}
use lib.Dec.{eqb, ltb}
use lib.ListN.{length, get_or}
use Rattle.logic.specs.Rules.{both, pick, bit, some_below}
use Rattle.logic.proofs.Counts.{count_split, count_more, not_some}
use Rattle.gate.specs.Gates.{target_of, gate_of}
use Rattle.gate.specs.Inner.{column_step}
use Rattle.table.specs.layouts.Layouts.{Width, wire_of, layouts_for}
use Rattle.table.proofs.layouts.Layouts.{wire_within, wire_fixed}
use Rattle.columns.specs.declared.Wanted.{Wanted}
use Rattle.columns.specs.Wanted.{fitting, dirt, tidy}
use Rattle.columns.specs.Finish.{Finish}
use Rattle.outputs.specs.Owed.{missed, alone, owed, spoilt, due, mends, worth}
use Rattle.outputs.proofs.Few.{missed_on, left_on, missed_kept, tidy_kept, spoilt_step, one_on, target_lt, alone_missed, left_few, finish_next, first_lawful}

second_fails : (a b : Bool) → both a b ≡ false → a ≡ true → b ≡ false
second_fails a b h e = rw e at h

module _ (t : Wanted) (n free p : ℕ) (width : Width n) (m : Memᴰ p (layouts_for n free)) (cs : List ℕ) (g : ℕ) where
  -- an output that is alone for the target, but laid out on another wire, is missed there after the gate too
  alone_kept : (j : ℕ) → j < n → alone t cs n free (target_of g) j ≡ true → (wire_of p j ≡ target_of g → ⊥) → missed t (column_step (gate_of g) cs) (wire_of p j) j ≡ true
  unfolding gate_of
  alone_kept j l h f = rw (missed_kept t (gate_of g) cs (wire_of p j) j f) (alone_missed t n free p width m cs (target_of g) j l h f)

  -- the gate mends one output at most, or the ancilla
  due_step : (gate_of g).target < 5 → due t cs n free (target_of g) ≤ left_on t n p (column_step (gate_of g) cs) + 1
  unfolding due owed gate_of
  due_step h =
      omega (
        arith,
        count_split (alone t cs n free (target_of g)) (missed_on t p (column_step (gate_of g) cs)) (λ j. eqb (wire_of p j) (target_of g)) n
            (λ j l e. by_wire j l e (ℕ_discrete (wire_of p j) (target_of g))),
        one_on t n free p width m (target_of g) h,
        spoilt_step (gate_of g) cs n,
      )
    where
      by_wire : (j : ℕ) → j < n → alone t cs n free (target_of g) j ≡ true → Dec (wire_of p j ≡ target_of g)
          → (missed t (column_step (gate_of g) cs) (wire_of p j) j ≡ true) ⊎ (eqb (wire_of p j) (target_of g) ≡ true)
      by_wire j l e (yes s) = inr (eq-eqb (wire_of p j) (target_of g) s)
      by_wire j l e (no s) = inl (alone_kept j l e s)

  -- a gate that does not mend its target mends none
  target_missed : (j : ℕ) → j < n → mends t cs n free (target_of g) (get_or (column_step (gate_of g) cs) (target_of g) 0) ≡ false
      → alone t cs n free (target_of g) j ≡ true → wire_of p j ≡ target_of g → missed t (column_step (gate_of g) cs) (wire_of p j) j ≡ true
  unfolding mends
  target_missed j l h a s = by_free (ℕ_discrete free 1)
    where
      column : ℕ
      column = get_or (column_step (gate_of g) cs) (target_of g) 0

      within : ltb (target_of g) n ≡ true
      within = lt-ltb (target_of g) n (rw (← s) (wire_within n free p width m j l))

      not_ancilla : n ≡ target_of g → ⊥
      not_ancilla e = omega (arith, wire_within n free p width m j l)

      fails : pick (eqb free 1) (some_below n (λ i. both (alone t cs n free (target_of g) i) (fitting t column i))) (fitting t column (target_of g)) ≡ false
      fails = second_fails (ltb (target_of g) n) _ (rw (ne_eqb n (target_of g) not_ancilla) at h) within

      unfit : fitting t column j ≡ false → missed t (column_step (gate_of g) cs) (wire_of p j) j ≡ true
      unfit e = ap (λ w. missed t (column_step (gate_of g) cs) w j) s ∙ ap not e

      by_free : Dec (free ≡ 1) → missed t (column_step (gate_of g) cs) (wire_of p j) j ≡ true
      by_free (yes e) =
          unfit (second_fails (alone t cs n free (target_of g) j) (fitting t column j)
          (not_some (λ i. both (alone t cs n free (target_of g) i) (fitting t column i)) n (rw (eq-eqb free 1 e) at fails) j l) a)
      by_free (no e) =
          let k : j ≡ target_of g = sym (wire_fixed n free p width m e j l) ∙ s in
          unfit (ap (fitting t column) k ∙ (rw (ne_eqb free 1 e) at fails))

  -- nor the ancilla
  spoilt_left : mends t cs n free (target_of g) (get_or (column_step (gate_of g) cs) (target_of g) 0) ≡ false
      → bit (spoilt cs n (target_of g)) ≤ bit (not (tidy n (column_step (gate_of g) cs)))
  unfolding mends gate_of
  spoilt_left h = by_wire (ℕ_discrete n (target_of g))
    where
      by_wire : Dec (n ≡ target_of g) → bit (spoilt cs n (target_of g)) ≤ bit (not (tidy n (column_step (gate_of g) cs)))
      by_wire (yes e) =
          let d : tidy n (column_step (gate_of g) cs) ≡ false
          = ap (λ w. eqb (dirt n (get_or (column_step (gate_of g) cs) w 0)) 0) e ∙ (rw (eq-eqb n (target_of g) e) at h) in
          rw (d, eq-eqb n (target_of g) e) (omega arith)
      by_wire (no f) = rw (ne_eqb n (target_of g) f, tidy_kept (gate_of g) cs n f) (omega arith)

  due_left : mends t cs n free (target_of g) (get_or (column_step (gate_of g) cs) (target_of g) 0) ≡ false
      → due t cs n free (target_of g) ≤ left_on t n p (column_step (gate_of g) cs)
  unfolding due owed
  due_left h =
      omega (
        arith,
        count_more (alone t cs n free (target_of g)) (missed_on t p (column_step (gate_of g) cs)) n (λ j l e. by_wire j l e (ℕ_discrete (wire_of p j) (target_of g))),
        spoilt_left h,
      )
    where
      by_wire : (j : ℕ) → j < n → alone t cs n free (target_of g) j ≡ true → Dec (wire_of p j ≡ target_of g)
          → missed t (column_step (gate_of g) cs) (wire_of p j) j ≡ true
      by_wire j l e (yes s) = target_missed j l h e s
      by_wire j l e (no s) = alone_kept j l e s

pub worth_not : (k : ℕ) (t : Wanted) (n free : ℕ) (cs : List ℕ) (g : ℕ) (e : List ℕ) (p most : ℕ) → Finish k t n free cs (g ∷ e) p
    → worth t cs n free g most ≡ false → suc (length e) ≤ most → ⊥
unfolding worth
worth_not k t n free cs g e p most f u le = by_size (ℕ_discrete (due t cs n free (target_of g)) most)
  where
    few : left_on t n p (column_step (gate_of g) cs) ≤ length e
    few = left_few k t n free (column_step (gate_of g) cs) e p (finish_next k t n free cs g e p f)

    by_size : Dec (due t cs n free (target_of g) ≡ most) → ⊥
    by_size (yes s) =
        omega (arith, few, due_left t n free p f.width f.laid cs g (rw (eq-eqb (due t cs n free (target_of g)) most s) at u))
    by_size (no s) =
        omega (
          arith,
          few,
          due_step t n free p f.width f.laid cs g (target_lt k g (first_lawful k t n free cs g e p f)),
          ltb-false (due t cs n free (target_of g)) most (rw (ne_eqb (due t cs n free (target_of g)) most s) at u),
        )
