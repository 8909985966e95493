-- How many outputs are alone for a wire, counted by their bits.
use mathlib.Core.Path.{◌≡◌, refl, ap, ap₂, ◌∙◌}
use mathlib.Core.Logic.{⊎_elim}
use mathlib.Core.Bool.{Bool, true, false}
use mathlib.Core.List.{List}
use Prim.Native.Nat.{ℕ, ◌+◌, ◌≤◌}
use native.Mathlib.Omega.{arith}
use borrow.Author.Tests.{eq-eqb, ne_eqb}
use lib.Bits.{bit_and}
use lib.Dec.{eqb}
use Rattle.logic.specs.Rules.{both, pick, bit, all_below}
use Rattle.logic.proofs.Counts.{count_le}
use Rattle.table.specs.layouts.Layouts.{Width}
use Rattle.columns.specs.declared.Wanted.{Wanted}
use Rattle.outputs.specs.Owed.{missed, alone, owed}

pub and_bits : (a b : Bool) → bit_and (bit a) (bit b) ≡ bit (both a b)
and_bits true true = refl
and_bits true false = refl
and_bits false true = refl
and_bits false false = refl

pub bit_one : (b : Bool) → eqb (bit b) 1 ≡ b
bit_one true = refl
bit_one false = refl

pub pick_le : (q : Bool) (x : ℕ) → pick q x 0 ≤ x
pick_le true x = omega arith
pick_le false x = omega arith

both_all : (a : Bool) → a ≡ both a true
both_all true = refl
both_all false = refl

module _ (a b c d : Bool) (x y z v : ℕ) (hx : x ≡ bit a) (hy : y ≡ bit b) (hz : z ≡ bit c) (hv : v ≡ bit d) where
  and_four : bit_and v (bit_and z (bit_and y x)) ≡ bit (both d (both c (both b a)))
  and_four = ap₂ bit_and hv (ap₂ bit_and hz (ap₂ bit_and hy hx ∙ and_bits b a) ∙ and_bits c (both b a)) ∙ and_bits d (both c (both b a))

module _ (n : ℕ) (width : Width n) where
  pub each_wire_law : (f : ℕ → Bool) → both (pick (eqb n 4) (f 3) true) (both (f 2) (both (f 1) (f 0))) ≡ all_below n f
  each_wire_law f =
      ⊎_elim (λ (e : n ≡ 3). rw e (last (f 2) (f 1))) (λ (e : n ≡ 4). rw e (ap (both (f 3)) (last (f 2) (f 1)))) width
    where
      last : (a b : Bool) → both a (both b (f 0)) ≡ both a (both b (both (f 0) true))
      last a b = ap (λ x. both a (both b x)) (both_all (f 0))

  pub missed_each : (t : Wanted) (cs : List ℕ) (j a b c d : ℕ) → a ≡ bit (missed t cs 0 j) → b ≡ bit (missed t cs 1 j) → c ≡ bit (missed t cs 2 j) → d ≡ bit (missed t cs 3 j)
      → bit_and (pick (eqb n 4) d 1) (bit_and c (bit_and b a)) ≡ bit (all_below n (λ w. missed t cs w j))
  missed_each t cs j a b c d ha hb hc hd =
      and_four (missed t cs 0 j) (missed t cs 1 j) (missed t cs 2 j) (pick (eqb n 4) (missed t cs 3 j) true) a b c (pick (eqb n 4) d 1)
      ha hb hc (fourth (eqb n 4) d (missed t cs 3 j) hd)
      ∙ ap bit (each_wire_law (λ w. missed t cs w j))
    where
      fourth : (q : Bool) (x : ℕ) (p : Bool) → x ≡ bit p → pick q x 1 ≡ bit (pick q p true)
      fourth true x p h = h
      fourth false x p h = refl

pub owed_few : (t : Wanted) (cs : List ℕ) (n free : ℕ) → Width n → (w : ℕ) → owed t cs n free w ≤ 4
unfolding owed
owed_few t cs n free width w = ⊎_elim (λ e. omega (arith, count_le (alone t cs n free w) n)) (λ e. omega (arith, count_le (alone t cs n free w) n)) width

-- what is owed, output by output
module _ (t : Wanted) (cs : List ℕ) (n free : ℕ) (width : Width n) (a b c d : ℕ) where
  pub free_owed : free ≡ 1 → a ≡ bit (all_below n (λ w. missed t cs w 0)) → b ≡ bit (all_below n (λ w. missed t cs w 1))
      → c ≡ bit (all_below n (λ w. missed t cs w 2)) → d ≡ bit (all_below n (λ w. missed t cs w 3))
      → pick (eqb n 4) d 0 + (c + (b + a)) ≡ owed t cs n free 4
  unfolding owed alone
  free_owed e ha hb hc hd =
      ⊎_elim (λ (h : n ≡ 3). rw (ha, hb, hc, hd, h, eq-eqb free 1 e) (omega arith)) (λ (h : n ≡ 4). rw (ha, hb, hc, hd, h, eq-eqb free 1 e) (omega arith)) width

  pub fixed_owed : (free ≡ 1 → ⊥) → a ≡ bit (missed t cs 0 0) → b ≡ bit (missed t cs 1 1) → c ≡ bit (missed t cs 2 2) → d ≡ bit (missed t cs 3 3)
      → pick (eqb n 4) d 0 + (c + (b + a)) ≡ owed t cs n free 4
  unfolding owed alone
  fixed_owed e ha hb hc hd =
      ⊎_elim (λ (h : n ≡ 3). rw (ha, hb, hc, hd, h, ne_eqb free 1 e) (omega arith)) (λ (h : n ≡ 4). rw (ha, hb, hc, hd, h, ne_eqb free 1 e) (omega arith)) width
