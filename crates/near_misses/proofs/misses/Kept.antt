-- Why so many wanted bits stay missed: r gates have at most r targets, and an output on another wire keeps its column.
use mathlib.Core.Path.{◌≡◌, refl, sym, ap, ◌∙◌}
use mathlib.Core.Logic.{⊎_elim}
use mathlib.Core.Bool.{Bool, true, false}
use mathlib.Core.List.{List, [], ◌∷◌, Memᴰ}
use Prim.Native.Nat.{ℕ, zero, suc, ◌+◌, ◌≤◌, ◌<◌, min}
use native.Mathlib.Decide.{ℕ_discrete}
use native.Mathlib.Omega.{arith}
use borrow.Author.Tests.{eq-eqb, ne_eqb}
use lib.Bits.{bit_xor}
use lib.Dec.{eqb}
use lib.ListN.{length, get_or}
use lib.Seq.{get_or-set_other}
use Rattle.logic.specs.Rules.{either, pick, bit, count_below}
use Rattle.logic.specs.Lists.{all_of, along}
use Rattle.logic.proofs.Chain.{both_left, both_right, either_cases}
use Rattle.logic.proofs.Counts.{count_none, count_split}
use Rattle.gate.specs.declared.Gate.{Gate}
use Rattle.gate.specs.Gates.{lawful, gate_of}
use Rattle.gate.specs.Inner.{firing, column_step}
use Rattle.circuit.specs.run.Inner.{columns_after}
use Rattle.table.specs.layouts.Layouts.{Width, wire_of, layouts_for}
use Rattle.table.proofs.layouts.Layouts.{wire_within, wire_once, wire_fixed}
use Rattle.columns.specs.declared.Wanted.{Wanted}
use Rattle.outputs.proofs.Few.{target_lt}
use Rattle.near_misses.specs.misses.Columns.{missed_by, missed_for, missed_on, least_of, least_missed, least_left, lefts, missed_at_least}

-- some gate of the list is on the wire
unfoldable hit : ℕ → List ℕ → Bool
hit w [] = false
hit w (b ∷ e) = either (eqb w (gate_of b).target) (hit w e)

-- a wire that no gate is on keeps its column
kept_step : (g : Gate) (cs : List ℕ) (w : ℕ) → eqb w g.target ≡ false → get_or (column_step g cs) w 0 ≡ get_or cs w 0
unfolding column_step
kept_step g cs w h = by_wire (ℕ_discrete w g.target)
  where
    by_wire : Dec (w ≡ g.target) → get_or (column_step g cs) w 0 ≡ get_or cs w 0
    by_wire (yes e) = absurd (apart (sym (eq-eqb w g.target e) ∙ h))
      where
        apart : true ≡ false → ⊥
        apart q = let z : ◌≡◌ {A = ℕ} 1 0 = ap bit q in absurd (omega arith)
    by_wire (no f) = get_or-set_other cs g.target w (bit_xor (get_or cs g.target 0) (firing g.kind cs)) 0 f

neither : (a b : Bool) → either a b ≡ false → (a ≡ false) × (b ≡ false)
neither true b h = absurd (let z : ◌≡◌ {A = ℕ} 1 0 = ap bit h in omega arith)
neither false b h = (refl, h)

kept_run : (w : ℕ) (e cs : List ℕ) → hit w e ≡ false → get_or (columns_after e cs) w 0 ≡ get_or cs w 0
unfolding hit along
kept_run w [] cs h = refl
kept_run w (b ∷ e) cs h =
    let q = neither (eqb w (gate_of b).target) (hit w e) h in
    kept_run w e (column_step (gate_of b) cs) q.1 ∙ kept_step (gate_of b) cs w q.0

-- numbers some of which are left out, and how many are
unfoldable left_sum : List Bool → List ℕ → ℕ
left_sum [] xs = 0
left_sum (h ∷ hs) [] = 0
left_sum (h ∷ hs) (x ∷ xs) = pick h 0 x + left_sum hs xs

unfoldable left_out : List Bool → ℕ
left_out [] = 0
left_out (h ∷ hs) = bit h + left_out hs

left_least : (hs : List Bool) (xs : List ℕ) (r : ℕ) → length hs ≡ length xs → left_out hs ≤ r → least_left xs r ≤ left_sum hs xs
unfolding least_left left_sum left_out
left_least hs [] r e h = omega arith
left_least [] (x ∷ xs) r e h = absurd (omega arith)
left_least (true ∷ hs) (x ∷ xs) zero e h = absurd (omega arith)
left_least (true ∷ hs) (x ∷ xs) (suc r) e h = omega (arith, left_least hs xs r (omega arith) (omega arith))
left_least (false ∷ hs) (x ∷ xs) zero e h = omega (arith, left_least hs xs zero (omega arith) (omega arith))
left_least (false ∷ hs) (x ∷ xs) (suc r) e h = omega (arith, left_least hs xs (suc r) (omega arith) (omega arith))

-- the sums of no number; those of one more; and one of them
pub lefts_none : 0 ∷ 0 ∷ 0 ∷ 0 ∷ [] ≡ lefts []
unfolding least_left
lefts_none = refl

pub lefts_one : (x : ℕ) (xs ls : List ℕ) → ls ≡ lefts xs
    → (x + get_or ls 0 0) ∷ min (x + get_or ls 1 0) (get_or ls 0 0) ∷ min (x + get_or ls 2 0) (get_or ls 1 0) ∷ min (x + get_or ls 3 0) (get_or ls 2 0) ∷ []
    ≡ lefts (x ∷ xs)
unfolding least_left
lefts_one x xs ls e = rw e

pub lefts_at : (xs : List ℕ) (r : ℕ) → r < 4 → get_or (lefts xs) r 0 ≡ least_left xs r
lefts_at xs zero h = refl
lefts_at xs (suc zero) h = refl
lefts_at xs (suc (suc zero)) h = refl
lefts_at xs (suc (suc (suc zero))) h = refl
lefts_at xs (suc (suc (suc (suc r)))) h = absurd (omega arith)

left_all : (xs : List ℕ) (r : ℕ) → length xs ≤ r → least_left xs r ≡ 0
unfolding least_left
left_all [] r h = refl
left_all (x ∷ xs) zero h = absurd (omega arith)
left_all (x ∷ xs) (suc r) h = omega (arith, left_all xs r (omega arith))

pub none_needed : (t : Wanted) (cs : List ℕ) (n free r : ℕ) → 4 ≤ r → missed_at_least t cs n free r ≡ 0
unfolding missed_at_least
none_needed t cs n free r h = left_all _ r h

-- what goes by the number of outputs
pub last_four : (n x y : ℕ) → n ≡ 4 → pick (eqb n 4) x y ≡ x
last_four n x y h = rw (eq-eqb n 4 h)

pub last_three : (n x y : ℕ) → (n ≡ 4 → ⊥) → pick (eqb n 4) x y ≡ y
last_three n x y h = rw (ne_eqb n 4 h)

-- the least by the kind of layout
pub free_least : (t : Wanted) (cs : List ℕ) (n free j : ℕ) → free ≡ 1 → least_missed t cs n free j ≡ least_of n (λ w. missed_by t (get_or cs w 0) j)
unfolding least_missed
free_least t cs n free j h = rw (eq-eqb free 1 h)

pub fixed_least : (t : Wanted) (cs : List ℕ) (n free j : ℕ) → (free ≡ 1 → ⊥) → least_missed t cs n free j ≡ missed_by t (get_or cs j 0) j
unfolding least_missed
fixed_least t cs n free j h = rw (ne_eqb free 1 h)

-- the least of a test over the data wires
least_of_law : (n : ℕ) (f : ℕ → ℕ) → Width n → (w : ℕ) → w < n → least_of n f ≤ f w
least_of_law n f width zero h = omega arith
least_of_law n f width (suc zero) h = omega arith
least_of_law n f width (suc (suc zero)) h = omega arith
least_of_law n f width (suc (suc (suc zero))) h =
    let e : n ≡ 4 = ⊎_elim (λ (q : n ≡ 3). absurd (omega arith)) (λ (q : n ≡ 4). q) width in
    rw (eq-eqb n 4 e) (omega arith)
least_of_law n f width (suc (suc (suc (suc w)))) h = absurd (⊎_elim (λ (q : n ≡ 3). omega arith) (λ (q : n ≡ 4). omega arith) width)

module _ (t : Wanted) (n free p : ℕ) (width : Width n) (m : Memᴰ p (layouts_for n free)) where
  -- an output misses at least as many bits as it does on the wire where it misses fewest
  least_for : (cs : List ℕ) (j : ℕ) → j < n → least_missed t cs n free j ≤ missed_for t cs p j
  least_for cs j l = by_free (ℕ_discrete free 1)
    where
      by_free : Dec (free ≡ 1) → least_missed t cs n free j ≤ missed_for t cs p j
      by_free (yes e) = rw (free_least t cs n free j e) (least_of_law n (λ w. missed_by t (get_or cs w 0) j) width (wire_of p j) (wire_within n free p width m j l))
      by_free (no f) = rw (fixed_least t cs n free j f, wire_fixed n free p width m f j l) (omega arith)

  module _ (k : ℕ) (e cs : List ℕ) where
    abbrev hits : ℕ → Bool
    hits j = hit (wire_of p j) e

    -- an output whose wire is hit may miss nothing at the end
    left_for : (j : ℕ) → j < n → pick (hits j) 0 (least_missed t cs n free j) ≤ missed_for t (columns_after e cs) p j
    left_for j l = by_hit (hits j) refl
      where
        by_hit : (b : Bool) → hits j ≡ b → pick b 0 (least_missed t cs n free j) ≤ missed_for t (columns_after e cs) p j
        by_hit true q = omega arith
        by_hit false q = rw (kept_run (wire_of p j) e cs q) (least_for cs j l)

  -- no more outputs are hit than there are gates
  hits_few : (k : ℕ) (e : List ℕ) → all_of (lawful k 5) e ≡ true → count_below n (λ j. hit (wire_of p j) e) ≤ length e
  unfolding hit all_of
  hits_few k [] h = omega (arith, count_none (λ j. hit (wire_of p j) []) n (λ j l. refl))
  hits_few k (b ∷ e) h =
      omega (
        arith,
        count_split (λ j. hit (wire_of p j) (b ∷ e)) (λ j. eqb (wire_of p j) (gate_of b).target) (λ j. hit (wire_of p j) e) n
            (λ j l q. either_cases (eqb (wire_of p j) (gate_of b).target) (hit (wire_of p j) e) q),
        wire_once n free p width m (gate_of b).target (target_lt k b (both_left (lawful k 5 b) (all_of (lawful k 5) e) h)),
        hits_few k e (both_right (lawful k 5 b) (all_of (lawful k 5) e) h),
      )

  pub missed_later : (k : ℕ) (e cs : List ℕ) (r : ℕ) → all_of (lawful k 5) e ≡ true → length e ≤ r
      → missed_at_least t cs n free r ≤ missed_on t (columns_after e cs) p
  unfolding missed_at_least missed_on left_sum left_out
  missed_later k e cs r h short = ⊎_elim three four width
    where
      three : n ≡ 3 → missed_at_least t cs n free r ≤ missed_on t (columns_after e cs) p
      three q =
          let few = rw q at (hits_few k e h) in
          let xs : List ℕ = 0 ∷ least_missed t cs n free 2 ∷ least_missed t cs n free 1 ∷ least_missed t cs n free 0 ∷ [] in
          let least = left_least (false ∷ hits k e cs 2 ∷ hits k e cs 1 ∷ hits k e cs 0 ∷ []) xs r refl (omega arith) in
          let same : pick (eqb n 4) (least_missed t cs n free 3) 0 ≡ 0 = rw q in
          rw same (omega (arith, least, left_for k e cs 2 (omega arith), left_for k e cs 1 (omega arith), left_for k e cs 0 (omega arith)))

      four : n ≡ 4 → missed_at_least t cs n free r ≤ missed_on t (columns_after e cs) p
      four q =
          let few = rw q at (hits_few k e h) in
          let xs : List ℕ = least_missed t cs n free 3 ∷ least_missed t cs n free 2 ∷ least_missed t cs n free 1 ∷ least_missed t cs n free 0 ∷ [] in
          let least = left_least (hits k e cs 3 ∷ hits k e cs 2 ∷ hits k e cs 1 ∷ hits k e cs 0 ∷ []) xs r refl (omega arith) in
          rw (eq-eqb n 4 q) (omega (arith, least, left_for k e cs 3 (omega arith), left_for k e cs 2 (omega arith), left_for k e cs 1 (omega arith), left_for k e cs 0 (omega arith)))
