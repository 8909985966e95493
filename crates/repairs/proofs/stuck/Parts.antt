-- The gates of at most three controls are those of at most two and those of three, and so is what they put right.
use mathlib.Core.Path.{◌≡◌, refl, ap, ap₂, ◌∙◌}
use mathlib.Core.Logic.{⊎_elim}
use mathlib.Core.Bool.{Bool, true, false, not}
use mathlib.Core.List.{List}
use Prim.Native.Nat.{ℕ, zero, suc}
use native.Mathlib.Omega.{arith}
use borrow.Author.Tests.{lt-leb, ne_eqb}
use lib.Bits.{bit_and}
use lib.Count.{ones}
use lib.Dec.{eqb, leb}
use lib.ListN.{get_or}
use Rattle.logic.specs.Rules.{both, either, pick, some_below}
use Rattle.logic.specs.Bit.{bit_of}
use Rattle.logic.proofs.Chain.{either_none}
use Rattle.columns.specs.declared.Wanted.{Wanted}
use Rattle.columns.specs.Wanted.{misses, all_rows, dirt, tidy}
use Rattle.outputs.specs.Owed.{missed, Controls, up_to, product, adds, mendable_on, mendable, cleanable, fixable}
use Rattle.outputs.specs.products.Products.{part}
use Rattle.repairs.proofs.matches.Joined.{either_swap, some_either}

three_parts : (c : ℕ) → leb c 3 ≡ either (leb c 2) (eqb c 3)
three_parts zero = refl
three_parts (suc zero) = refl
three_parts (suc (suc zero)) = refl
three_parts (suc (suc (suc zero))) = refl
three_parts (suc (suc (suc (suc c)))) =
    let b = suc (suc (suc (suc c))) in
    rw (lt-leb b 3 (omega arith), lt-leb b 2 (omega arith), ne_eqb b 3 (λ e. omega arith))

either_both : (a b z : Bool) → both (either a b) z ≡ either (both a z) (both b z)
either_both true b true = refl
either_both true true false = refl
either_both true false false = refl
either_both false b z = refl

both_either : (h a b : Bool) → both h (either a b) ≡ either (both h a) (both h b)
both_either true a b = refl
both_either false a b = refl

pick_either : (q a b c d : Bool) → pick q (either a b) (either c d) ≡ either (pick q a c) (pick q b d)
pick_either true a b c d = refl
pick_either false a b c d = refl

module _ (cs : List ℕ) where
  adds_parts : (w care want : ℕ) → adds (up_to 3) cs w care want ≡ either (adds (part false) cs w care want) (adds (part true) cs w care want)
  unfolding adds
  adds_parts w care want =
      (λ i. some_below 32 (λ m. at m i)) ∙ some_either 32 (λ m. both (part false (ones m)) (just m)) (λ m. both (part true (ones m)) (just m))
    where
      just : ℕ → Bool
      just m = both (eqb (bit_of w m) 0) (eqb (bit_and (product cs m) care) want)

      at : (m : ℕ) → both (up_to 3 (ones m)) (just m) ≡ either (both (part false (ones m)) (just m)) (both (part true (ones m)) (just m))
      at m = ap (λ b. both b (just m)) (three_parts (ones m)) ∙ either_both (leb (ones m) 2) (eqb (ones m) 3) (just m)

  cleanable_parts : (n : ℕ) → cleanable (up_to 3) cs n ≡ either (cleanable (part false) cs n) (cleanable (part true) cs n)
  unfolding cleanable
  cleanable_parts n =
      let d = dirt n (get_or cs n 0) in
      ap (both (not (tidy n cs))) (adds_parts n (all_rows n) d) ∙ both_either (not (tidy n cs)) (adds (part false) cs n (all_rows n) d) (adds (part true) cs n (all_rows n) d)

  module _ (t : Wanted) where
    output_parts : (w j : ℕ) → mendable_on (up_to 3) t cs w j ≡ either (mendable_on (part false) t cs w j) (mendable_on (part true) t cs w j)
    unfolding mendable_on
    output_parts w j =
        let care = get_or t.care j 0 in
        let d = misses t (get_or cs w 0) j in
        ap (both (missed t cs w j)) (adds_parts w care d) ∙ both_either (missed t cs w j) (adds (part false) cs w care d) (adds (part true) cs w care d)

    mendable_parts : (n free : ℕ) → mendable (up_to 3) t cs n free ≡ either (mendable (part false) t cs n free) (mendable (part true) t cs n free)
    unfolding mendable
    mendable_parts n free = (λ i. some_below n (λ w. at w i)) ∙ some_either n (on (part false)) (on (part true))
      where
        on : (ℕ → Bool) → ℕ → Bool
        on allowed w = pick (eqb free 1) (some_below n (mendable_on allowed t cs w)) (mendable_on allowed t cs w w)

        at : (w : ℕ) → on (up_to 3) w ≡ either (on (part false) w) (on (part true) w)
        at w =
            ap₂ (pick (eqb free 1))
            ((λ i. some_below n (λ j. output_parts w j i)) ∙ some_either n (mendable_on (part false) t cs w) (mendable_on (part true) t cs w))
            (output_parts w w)
            ∙ pick_either (eqb free 1) (some_below n (mendable_on (part false) t cs w)) (some_below n (mendable_on (part true) t cs w))
            (mendable_on (part false) t cs w w) (mendable_on (part true) t cs w w)

    three_fixable : (n free : ℕ) → fixable (up_to 3) t cs n free ≡ either (fixable (part false) t cs n free) (fixable (part true) t cs n free)
    unfolding fixable
    three_fixable n free =
        ap₂ either (cleanable_parts n) (mendable_parts n free)
        ∙ either_swap (cleanable (part false) cs n) (cleanable (part true) cs n) (mendable (part false) t cs n free) (mendable (part true) t cs n free)

    -- the second part is asked only where gates have three controls
    pub fixable_parts : (k n free : ℕ) → Controls k
        → fixable (up_to k) t cs n free ≡ either (fixable (part false) t cs n free) (both (not (eqb k 2)) (fixable (part true) t cs n free))
    fixable_parts k n free hk =
        ⊎_elim (λ (e : k ≡ 2). rw e (either_none (fixable (part false) t cs n free))) (λ (e : k ≡ 3). rw e (three_fixable n free)) hk
