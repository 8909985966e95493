-- The outputs that a layout misses, the ancilla counted in, are at most as many as the gates still to come: a gate changes one column, and
-- that is the ancilla's or has at most one output of an allowed layout on it.
use mathlib.Core.Path.{◌≡◌, ap, ◌∙◌}
use mathlib.Core.Logic.{◌⊎◌, inl, inr, ⊎_elim}
use mathlib.Core.Bool.{Bool, true, false, not}
use mathlib.Core.List.{List, [], ◌∷◌, Memᴰ}
use Prim.Native.Nat.{ℕ, ◌+◌, ◌≤◌, ◌<◌}
use native.Mathlib.Decide.{ℕ_discrete}
use native.Mathlib.Omega.{arith}
use borrow.Author.Tests.{eq-eqb, ne_eqb}
use lib.Bits.{bit_xor}
use lib.Dec.{eqb}
use lib.ListN.{length, get_or}
use lib.Seq.{get_or-set_other}
use Rattle.logic.specs.Rules.{either, bit, count_below}
use Rattle.logic.specs.Lists.{all_of, along}
use Rattle.logic.proofs.Chain.{both_left, both_right}
use Rattle.logic.proofs.Below.{below}
use Rattle.logic.proofs.Counts.{bit_le, count_none, count_split, count_more}
use Rattle.gate.specs.declared.Gate.{Gate}
use Rattle.gate.specs.Gates.{lawful, gate_of}
use Rattle.gate.specs.Inner.{firing, column_step}
use Rattle.gate.proofs.Widen.{parts}
use Rattle.gate.proofs.Slices.{length_step}
use Rattle.circuit.specs.run.Inner.{columns_after}
use Rattle.table.specs.layouts.Layouts.{Width, wire_of, layouts_for}
use Rattle.table.proofs.layouts.Layouts.{wire_within, wire_once, wire_fixed}
use Rattle.columns.specs.declared.Wanted.{Wanted}
use Rattle.columns.specs.Wanted.{fitting, fits, met, dirt, tidy}
use Rattle.columns.specs.Finish.{Finish}
use Rattle.outputs.specs.Owed.{missed, alone, owed, spoilt, lost}

-- a gate leaves every column but its target's
column_kept : (g : Gate) (cs : List ℕ) (w : ℕ) → (w ≡ g.target → ⊥) → get_or (column_step g cs) w 0 ≡ get_or cs w 0
unfolding column_step
column_kept g cs w h = get_or-set_other cs g.target w (bit_xor (get_or cs g.target 0) (firing g.kind cs)) 0 h

pub missed_kept : (t : Wanted) (g : Gate) (cs : List ℕ) (w j : ℕ) → (w ≡ g.target → ⊥) → missed t (column_step g cs) w j ≡ missed t cs w j
missed_kept t g cs w j h = ap (λ c. not (fitting t c j)) (column_kept g cs w h)

pub tidy_kept : (g : Gate) (cs : List ℕ) (n : ℕ) → (n ≡ g.target → ⊥) → tidy n (column_step g cs) ≡ tidy n cs
tidy_kept g cs n h = ap (λ c. eqb (dirt n c) 0) (column_kept g cs n h)

-- a gate on another wire leaves the ancilla as it is
pub spoilt_step : (g : Gate) (cs : List ℕ) (n : ℕ) → bit (spoilt cs n g.target) ≤ bit (not (tidy n (column_step g cs))) + bit (eqb n g.target)
spoilt_step g cs n = by_wire (ℕ_discrete n g.target)
  where
    by_wire : Dec (n ≡ g.target) → bit (spoilt cs n g.target) ≤ bit (not (tidy n (column_step g cs))) + bit (eqb n g.target)
    by_wire (yes e) = rw (eq-eqb n g.target e) (omega arith)
    by_wire (no f) = rw (ne_eqb n g.target f, tidy_kept g cs n f) (omega arith)

dirty_spoilt : (a b : Bool) → bit b ≤ bit (either a b)
dirty_spoilt true b = bit_le b
dirty_spoilt false b = omega arith

pub target_lt : (k b : ℕ) → lawful k 5 b ≡ true → (gate_of b).target < 5
unfolding gate_of
target_lt k b h = (parts k 5 b h).target

-- one of two that is not the first is the second
pub other : (a b : Bool) → a ≡ false → either a b ≡ true → b ≡ true
other a b h e = rw h at e

-- whether a layout misses output j
abbrev pub missed_on : Wanted → ℕ → List ℕ → ℕ → Bool
missed_on t p cs j = missed t cs (wire_of p j) j

-- what is left to do under a layout: the outputs that it misses, and the ancilla where it is not at 0
abbrev pub left_on : Wanted → ℕ → ℕ → List ℕ → ℕ
left_on t n p cs = count_below n (missed_on t p cs) + bit (not (tidy n cs))

module _ (t : Wanted) (n free p : ℕ) (width : Width n) (m : Memᴰ p (layouts_for n free)) where
  -- an output that is alone for a wire, but laid out on another, is missed there
  pub alone_missed : (cs : List ℕ) (wire j : ℕ) → j < n → alone t cs n free wire j ≡ true → (wire_of p j ≡ wire → ⊥) → missed t cs (wire_of p j) j ≡ true
  unfolding alone
  alone_missed cs wire j l h f = by_free (ℕ_discrete free 1)
    where
      by_free : Dec (free ≡ 1) → missed t cs (wire_of p j) j ≡ true
      by_free (yes e) =
          other (eqb (wire_of p j) wire) (missed t cs (wire_of p j) j) (ne_eqb (wire_of p j) wire f)
          (below n (λ w. either (eqb w wire) (missed t cs w j)) (rw (eq-eqb free 1 e) at h) (wire_of p j) (wire_within n free p width m j l))
      by_free (no e) =
          let s = wire_fixed n free p width m e j l in
          ap (λ w. missed t cs w j) s ∙ other (eqb j wire) (missed t cs j j) (ne_eqb j wire (λ k. f (s ∙ k))) (rw (ne_eqb free 1 e) at h)

  -- no output is laid out on wire 4
  pub not_four : (j : ℕ) → j < n → wire_of p j ≡ 4 → ⊥
  not_four j l e = ⊎_elim (λ (h : n ≡ 3). omega (arith, wire_within n free p width m j l)) (λ (h : n ≡ 4). omega (arith, wire_within n free p width m j l)) width

  -- one thing at most is on a wire: an output, or the ancilla
  pub one_on : (w : ℕ) → w < 5 → count_below n (λ j. eqb (wire_of p j) w) + bit (eqb n w) ≤ 1
  one_on w h = by_wire (ℕ_discrete n w)
    where
      by_wire : Dec (n ≡ w) → count_below n (λ j. eqb (wire_of p j) w) + bit (eqb n w) ≤ 1
      by_wire (yes e) =
          omega (
            arith,
            count_none (λ j. eqb (wire_of p j) w) n (λ j l. ne_eqb (wire_of p j) w (λ s. omega (arith, wire_within n free p width m j l))),
            bit_le (eqb n w),
          )
      by_wire (no f) = rw (ne_eqb n w f) (omega (arith, wire_once n free p width m w h))

  lost_missed : (cs : List ℕ) → lost t cs n free ≤ left_on t n p cs
  unfolding lost owed
  lost_missed cs = omega (arith, count_more (alone t cs n free 4) (missed_on t p cs) n (λ j l h. alone_missed cs 4 j l h (not_four j l)))

  missed_step : (g : Gate) (cs : List ℕ) → g.target < 5 → left_on t n p cs ≤ left_on t n p (column_step g cs) + 1
  missed_step g cs h =
      omega (
        arith,
        count_split (missed_on t p cs) (missed_on t p (column_step g cs)) (λ j. eqb (wire_of p j) g.target) n
            (λ j l e. by_wire j e (ℕ_discrete (wire_of p j) g.target)),
        one_on g.target h,
        dirty_spoilt (eqb n g.target) (not (tidy n cs)),
        spoilt_step g cs n,
      )
    where
      by_wire : (j : ℕ) → missed t cs (wire_of p j) j ≡ true → Dec (wire_of p j ≡ g.target)
          → (missed t (column_step g cs) (wire_of p j) j ≡ true) ⊎ (eqb (wire_of p j) g.target ≡ true)
      by_wire j e (yes s) = inr (eq-eqb (wire_of p j) g.target s)
      by_wire j e (no s) = inl (rw (missed_kept t g cs (wire_of p j) j s) e)

  missed_run : (k : ℕ) (e cs : List ℕ) → all_of (lawful k 5) e ≡ true
      → left_on t n p cs ≤ left_on t n p (columns_after e cs) + length e
  unfolding all_of along
  missed_run k [] cs h = omega arith
  missed_run k (b ∷ e) cs h =
      omega (
        arith,
        missed_step (gate_of b) cs (target_lt k b (both_left (lawful k 5 b) (all_of (lawful k 5) e) h)),
        missed_run k e (column_step (gate_of b) cs) (both_right (lawful k 5 b) (all_of (lawful k 5) e) h),
      )

  met_none : (cs : List ℕ) → met t cs p ≡ true → tidy n cs ≡ true → left_on t n p cs ≡ 0
  unfolding met
  met_none cs h c =
      let n4 : n ≤ 4 = ⊎_elim (λ e. omega arith) (λ e. omega arith) width in
      rw c (omega (arith, count_none (missed_on t p cs) n (λ j l. ap not (below 4 (fits t cs p) h j (omega arith)))))

module _ (k : ℕ) (t : Wanted) (n free : ℕ) (cs e : List ℕ) (p : ℕ) (f : Finish k t n free cs e p) where
  pub left_few : left_on t n p cs ≤ length e
  left_few =
      omega (
        arith,
        missed_run t n free p f.width f.laid k e cs f.kept,
        met_none t n free p f.width f.laid (columns_after e cs) f.meets f.tidied,
      )

  -- so is what every layout leaves
  pub lost_few : lost t cs n free ≤ length e
  lost_few = omega (arith, lost_missed t n free p f.width f.laid cs, left_few)

-- a way to finish is one from the columns after its first gate
pub finish_next : (k : ℕ) (t : Wanted) (n free : ℕ) (cs : List ℕ) (g : ℕ) (e : List ℕ) (p : ℕ) → Finish k t n free cs (g ∷ e) p
    → Finish k t n free (column_step (gate_of g) cs) e p
unfolding all_of along
finish_next k t n free cs g e p f = record {
  width = f.width;
  four = f.four;
  five = length_step (gate_of g) cs ∙ f.five;
  kept = both_right (lawful k 5 g) (all_of (lawful k 5) e) f.kept;
  laid = f.laid;
  meets = f.meets;
  tidied = f.tidied;
}

pub first_lawful : (k : ℕ) (t : Wanted) (n free : ℕ) (cs : List ℕ) (g : ℕ) (e : List ℕ) (p : ℕ) → Finish k t n free cs (g ∷ e) p → lawful k 5 g ≡ true
unfolding all_of
first_lawful k t n free cs g e p f = both_left (lawful k 5 g) (all_of (lawful k 5) e) f.kept
