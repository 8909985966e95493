-- What the plan's digits hold, read back at a place, and the test of a gate from them.
use mathlib.Core.Path.{◌≡◌, refl, sym, ap, ap₂, ◌∙◌}
use mathlib.Core.Logic.{⊎_elim}
use mathlib.Core.Bool.{Bool, true, false, not}
use mathlib.Core.List.{List}
use Prim.Native.Nat.{ℕ, ◌+◌, ◌*◌, ◌/◌, ◌%◌, ◌^◌, ◌≤◌, ◌<◌}
use native.Mathlib.Omega.{arith}
use native.Mathlib.Decide.{dec_lt}
use borrow.Author.Tests.{eq-eqb, ne_eqb, lt-ltb, le-ltb}
use lib.Count.{ones, ones_in, count_trailing_zeros, count_leading_zeros}
use lib.Dec.{eqb, ltb, lit<}
use lib.ListN.{get_or}
use Rattle.logic.specs.Rules.{both, either, pick, bit, some_below}
use Rattle.logic.proofs.Counts.{bit_le}
use Rattle.logic.proofs.Chain.{either_none}
use Rattle.gate.specs.Gates.{target_of, gate_of}
use Rattle.gate.specs.Inner.{column_step}
use Rattle.table.specs.layouts.Layouts.{Width}
use Rattle.columns.specs.declared.Wanted.{Wanted}
use Rattle.columns.specs.Wanted.{misses, fitting, tidy}
use Rattle.outputs.specs.Owed.{alone, owed, spoilt, due, lost, mends, worth}
use Rattle.outputs.proofs.Wires.{by_five}
use Rattle.outputs.proofs.Counted.{bit_one, owed_few}
use Rattle.outputs.specs.products.Products.{table_of}
use Rattle.outputs.specs.declared.plan.Plan.{Plan}
use Rattle.outputs.specs.plan.Plan.{digits, alone_bit, set_of, plan_of}
use Rattle.outputs.specs.plan.Inner.{packed, places_of, spread_of, spots_of, spoilt_spots}
use Rattle.outputs.specs.worth.Inner.{has_output, has_one, mends_by}

digit : (f : ℕ → ℕ) (w : ℕ) → w < 5 → ((i : ℕ) → i < 5 → f i < 16) → digits f / 2 ^ (4 * w) % 16 ≡ f w
digit f w h l =
    let l₀ = l 0 (lit< tt) in
    let l₁ = l 1 (lit< tt) in
    let l₂ = l 2 (lit< tt) in
    let l₃ = l 3 (lit< tt) in
    let l₄ = l 4 (lit< tt) in
    by_five (λ i. digits f / 2 ^ (4 * i) % 16 ≡ f i) (omega arith) (omega arith) (omega arith) (omega arith) (omega arith) w h

-- four bits as a number, read back
module _ (a b c d : Bool) where
  abbrev set : ℕ
  set = bit a + 2 * bit b + 4 * bit c + 8 * bit d

  set_lt : set < 16
  set_lt = omega (arith, bit_le a, bit_le b, bit_le c, bit_le d)

  bit_0 : eqb (set / 2 ^ 0 % 2) 1 ≡ a
  bit_0 = let e : set / 1 % 2 ≡ bit a = omega (arith, bit_le a) in ap (λ x. eqb x 1) e ∙ bit_one a

  bit_1 : eqb (set / 2 % 2) 1 ≡ b
  bit_1 = let e : set / 2 % 2 ≡ bit b = omega (arith, bit_le a, bit_le b) in ap (λ x. eqb x 1) e ∙ bit_one b

  bit_2 : eqb (set / 4 % 2) 1 ≡ c
  bit_2 = let e : set / 4 % 2 ≡ bit c = omega (arith, bit_le a, bit_le b, bit_le c) in ap (λ x. eqb x 1) e ∙ bit_one c

  bit_3 : eqb (set / 8 % 2) 1 ≡ d
  bit_3 = let e : set / 8 % 2 ≡ bit d = omega (arith, bit_le a, bit_le b, bit_le c, bit_le d) in ap (λ x. eqb x 1) e ∙ bit_one d

  chosen : (p q r s : Bool)
      → either (both (eqb (set / 8 % 2) 1) s) (either (both (eqb (set / 4 % 2) 1) r) (either (both (eqb (set / 2 % 2) 1) q) (both (eqb (set / 2 ^ 0 % 2) 1) p)))
      ≡ either (both d s) (either (both c r) (either (both b q) (either (both a p) false)))
  chosen p q r s =
      ap₂ either (ap (λ x. both x s) bit_3)
      (ap₂ either (ap (λ x. both x r) bit_2)
      (ap₂ either (ap (λ x. both x q) bit_1)
      (ap (λ x. both x p) bit_0 ∙ either_none (both a p))))

module _ (k : ℕ) (t : Wanted) (cs : List ℕ) (free w column : ℕ) where
  one_of_three : has_one (table_of k t cs) column (set_of t cs 3 free w) ≡ some_below 3 (λ j. both (alone t cs 3 free w j) (fitting t column j))
  unfolding has_one has_output set_of misses table_of ones ones_in count_trailing_zeros count_leading_zeros
  one_of_three =
      chosen (alone t cs 3 free w 0) (alone t cs 3 free w 1) (alone t cs 3 free w 2) false
      (fitting t column 0) (fitting t column 1) (fitting t column 2) (fitting t column 3)

  one_of_four : has_one (table_of k t cs) column (set_of t cs 4 free w) ≡ some_below 4 (λ j. both (alone t cs 4 free w j) (fitting t column j))
  unfolding has_one has_output set_of misses table_of ones ones_in count_trailing_zeros count_leading_zeros
  one_of_four =
      chosen (alone t cs 4 free w 0) (alone t cs 4 free w 1) (alone t cs 4 free w 2) (alone t cs 4 free w 3)
      (fitting t column 0) (fitting t column 1) (fitting t column 2) (fitting t column 3)

  output_at : (j : ℕ) → j < 4 → has_output (table_of k t cs) column j ≡ fitting t column j
  unfolding has_output misses table_of ones ones_in count_trailing_zeros count_leading_zeros
  output_at j h =
      by_five (λ i. i < 4 → has_output (table_of k t cs) column i ≡ fitting t column i)
      (λ l. refl) (λ l. refl) (λ l. refl) (λ l. refl) (λ l. absurd (omega arith)) j (omega arith) h

  mends_by_law : (n : ℕ) → Width n → mends_by (table_of k t cs) (set_of t cs n free w) n free w column ≡ mends t cs n free w column
  unfolding mends_by mends
  mends_by_law n width = by_wire (dec_lt w n)
    where
      one_of : has_one (table_of k t cs) column (set_of t cs n free w) ≡ some_below n (λ j. both (alone t cs n free w j) (fitting t column j))
      one_of = ⊎_elim (λ (e : n ≡ 3). rw e one_of_three) (λ (e : n ≡ 4). rw e one_of_four) width

      by_wire : Dec (w < n) → mends_by (table_of k t cs) (set_of t cs n free w) n free w column ≡ mends t cs n free w column
      by_wire (yes h) =
          let l : w < 4 = ⊎_elim (λ e. omega arith) (λ e. omega arith) width in
          rw (one_of, output_at w l)
      by_wire (no h) = rw (le-ltb w n (omega arith))

pub pick_both : (a b : Bool) → both a b ≡ pick a b false
pick_both true b = refl
pick_both false b = refl

due_few : (t : Wanted) (cs : List ℕ) (n free : ℕ) → Width n → (w : ℕ) → due t cs n free w < 16
unfolding due
due_few t cs n free width w = omega (arith, owed_few t cs n free width w, bit_le (spoilt cs n w))

module _ (t : Wanted) (cs : List ℕ) (n free : ℕ) (width : Width n) (w : ℕ) (h : w < 5) where
  size_at : (plan_of t cs n free).sizes / 2 ^ (4 * w) % 16 ≡ due t cs n free w
  unfolding plan_of
  size_at = digit (due t cs n free) w h (λ i l. due_few t cs n free width i)

  set_at : (plan_of t cs n free).sets / 2 ^ (4 * w) % 16 ≡ set_of t cs n free w
  unfolding plan_of set_of
  set_at =
      digit (set_of t cs n free) w h
      (λ i l. set_lt (both (ltb 0 n) (alone t cs n free i 0)) (both (ltb 1 n) (alone t cs n free i 1)) (both (ltb 2 n) (alone t cs n free i 2)) (both (ltb 3 n) (alone t cs n free i 3)))

-- the test of a gate, from what the plan says of it
module _ (t : Wanted) (cs : List ℕ) (n free g most : ℕ) (width : Width n) (hg : target_of g < 5)
    (plan : Plan) (hp : plan ≡ plan_of t cs n free) where
  size_told : plan.sizes / 2 ^ (4 * target_of g) % 16 ≡ due t cs n free (target_of g)
  size_told = rw hp (size_at t cs n free width (target_of g) hg)

  pub worth_size : (plan.sizes / 2 ^ (4 * target_of g) % 16 ≡ most → ⊥) → ltb (plan.sizes / 2 ^ (4 * target_of g) % 16) most ≡ worth t cs n free g most
  unfolding worth
  worth_size f = let e = size_told in rw (ne_eqb (due t cs n free (target_of g)) most (λ h. f (e ∙ h)), ← e)

  pub worth_mends : plan.sizes / 2 ^ (4 * target_of g) % 16 ≡ most → (k : ℕ) (table : List ℕ) → table ≡ table_of k t cs → (column : ℕ)
      → column ≡ get_or (column_step (gate_of g) cs) (target_of g) 0
      → mends_by table (plan.sets / 2 ^ (4 * target_of g) % 16) n free (target_of g) column ≡ worth t cs n free g most
  unfolding worth
  worth_mends f k table ht column hc =
      let e = sym size_told ∙ f in
      let s = ap (λ (x : Plan). x.sets / 2 ^ (4 * target_of g) % 16) hp ∙ set_at t cs n free width (target_of g) hg in
      rw (eq-eqb (due t cs n free (target_of g)) most e, ht, s, hc)
      (mends_by_law k t cs free (target_of g) (get_or (column_step (gate_of g) cs) (target_of g) 0) n width)

-- with the wires that have an output in a set, a target's digit is 1 where no other wire is in it
abbrev free_of : Bool → Bool → Bool → Bool → ℕ → Bool
free_of a b c d wire =
    both (either (eqb 3 wire) (not d)) (both (either (eqb 2 wire) (not c)) (both (either (eqb 1 wire) (not b)) (both (either (eqb 0 wire) (not a)) true)))

spread_set : (a b c d : Bool) → spread_of (set a b c d) ≡ digits (λ wire. bit (free_of a b c d wire))
unfolding spread_of
spread_set true true true true = refl
spread_set true true true false = refl
spread_set true true false true = refl
spread_set true true false false = refl
spread_set true false true true = refl
spread_set true false true false = refl
spread_set true false false true = refl
spread_set true false false false = refl
spread_set false true true true = refl
spread_set false true true false = refl
spread_set false true false true = refl
spread_set false true false false = refl
spread_set false false true true = refl
spread_set false false true false = refl
spread_set false false false true = refl
spread_set false false false false = refl

module _ (t : Wanted) (cs : List ℕ) (j : ℕ) where
  abbrev on : ℕ → Bool
  on w = fitting t (get_or cs w 0) j

  free_four : j < 4 → spread_of (places_of t cs 4 j) ≡ spots_of t cs 4 1 j
  unfolding places_of spots_of alone
  free_four h = rw (lt-ltb j 4 h) (spread_set (on 0) (on 1) (on 2) (on 3))

  free_three : j < 3 → spread_of (places_of t cs 3 j) ≡ spots_of t cs 3 1 j
  unfolding places_of spots_of alone
  free_three h = rw (lt-ltb j 3 h) (spread_set (on 0) (on 1) (on 2) false)

-- where an output has its own wire only, that wire is the one target for which it is alone if the wire has it, and else every target is;
-- so it is with the ancilla
fixed_set : (x : Bool) (j : ℕ) → j < 5 → pick x (1 * 2 ^ (4 * j) % 2 ^ 32) 69905 ≡ digits (λ wire. bit (either (eqb j wire) (not x)))
fixed_set true = by_five (λ i. 1 * 2 ^ (4 * i) % 2 ^ 32 ≡ digits (λ wire. bit (either (eqb i wire) false))) refl refl refl refl refl
fixed_set false = by_five (λ i. 69905 ≡ digits (λ wire. bit (either (eqb i wire) true))) refl refl refl refl refl

pub digit_most : (j : ℕ) → j < 5 → 1 * 2 ^ (4 * j) % 2 ^ 32 ≤ 69905
digit_most = by_five (λ i. 1 * 2 ^ (4 * i) % 2 ^ 32 ≤ 69905) (omega arith) (omega arith) (omega arith) (omega arith) (omega arith)

pub spoilt_at : (cs : List ℕ) (n : ℕ) → n < 5 → pick (tidy n cs) (1 * 2 ^ (4 * n) % 2 ^ 32) 69905 ≡ spoilt_spots cs n
unfolding spoilt_spots
spoilt_at cs n h = fixed_set (tidy n cs) n h

module _ (t : Wanted) (cs : List ℕ) (n free j : ℕ) where
  pub fixed_at : (free ≡ 1 → ⊥) → j < n → j < 4 → pick (fitting t (get_or cs j 0) j) (1 * 2 ^ (4 * j) % 2 ^ 32) 69905 ≡ spots_of t cs n free j
  unfolding spots_of alone
  fixed_at f h l = rw (ne_eqb free 1 f, lt-ltb j n h) (fixed_set (fitting t (get_or cs j 0) j) j (omega arith))

  pub free_at : free ≡ 1 → Width n → j < n → spread_of (places_of t cs n j) ≡ spots_of t cs n free j
  free_at e width h =
      ⊎_elim (λ (f : n ≡ 3). rw (e, f) (free_three t cs j (rw f at h))) (λ (f : n ≡ 4). rw (e, f) (free_four t cs j (rw f at h))) width

  pub no_spots : n ≤ j → spots_of t cs n free j ≡ 0
  unfolding spots_of
  no_spots h = rw (le-ltb j n h)

sum_digits : (f g h k : ℕ → ℕ) → digits f + digits g + digits h + digits k ≡ digits (λ w. f w + g w + h w + k w)
sum_digits f g h k = omega arith

one_more : (f g : ℕ → ℕ) → digits f + digits g ≡ digits (λ w. f w + g w)
one_more f g = omega arith

sum_sets : (f g h k : ℕ → ℕ) → digits f + 2 * digits g + 4 * digits h + 8 * digits k ≡ digits (λ w. f w + 2 * g w + 4 * h w + 8 * k w)
sum_sets f g h k = omega arith

same_digits : (f g : ℕ → ℕ) → ((w : ℕ) → f w ≡ g w) → digits f ≡ digits g
same_digits f g h = rw (h 0, h 1, h 2, h 3, h 4)

module _ (t : Wanted) (cs : List ℕ) (n free : ℕ) (width : Width n) where
  owed_sum : (w : ℕ) → alone_bit t cs n free w 0 + alone_bit t cs n free w 1 + alone_bit t cs n free w 2 + alone_bit t cs n free w 3 ≡ owed t cs n free w
  unfolding owed
  owed_sum w = ⊎_elim (λ (e : n ≡ 3). rw e (omega arith)) (λ (e : n ≡ 4). rw e (omega arith)) width

  outputs_is : spots_of t cs n free 0 + spots_of t cs n free 1 + spots_of t cs n free 2 + spots_of t cs n free 3 ≡ digits (owed t cs n free)
  unfolding spots_of
  outputs_is =
      sum_digits (λ w. alone_bit t cs n free w 0) (λ w. alone_bit t cs n free w 1) (λ w. alone_bit t cs n free w 2) (λ w. alone_bit t cs n free w 3)
      ∙ same_digits _ (owed t cs n free) owed_sum

  sets_is : spots_of t cs n free 0 + 2 * spots_of t cs n free 1 + 4 * spots_of t cs n free 2 + 8 * spots_of t cs n free 3 ≡ digits (set_of t cs n free)
  unfolding spots_of set_of
  sets_is = sum_sets (λ w. alone_bit t cs n free w 0) (λ w. alone_bit t cs n free w 1) (λ w. alone_bit t cs n free w 2) (λ w. alone_bit t cs n free w 3)

  sizes_is : digits (owed t cs n free) + spoilt_spots cs n ≡ digits (due t cs n free)
  unfolding spoilt_spots due
  sizes_is = one_more (owed t cs n free) (λ w. bit (spoilt cs n w))

  lost_is : digits (owed t cs n free) / 65536 + bit (not (tidy n cs)) ≡ lost t cs n free
  unfolding lost
  lost_is =
      let few = owed_few t cs n free width in
      omega (arith, few 0, few 1, few 2, few 3)

  pub plan_is : (a b c d e dirty : ℕ) → a ≡ spots_of t cs n free 0 → b ≡ spots_of t cs n free 1 → c ≡ spots_of t cs n free 2 → d ≡ spots_of t cs n free 3
      → e ≡ spoilt_spots cs n → dirty ≡ bit (not (tidy n cs))
      → packed a b c d e dirty ≡ plan_of t cs n free
  unfolding plan_of
  plan_is a b c d e dirty ha hb hc hd he hk = rw (ha, hb, hc, hd, he, hk, sets_is, outputs_is, sizes_is, lost_is)

  pub lost_at : (plan_of t cs n free).lost ≡ lost t cs n free
  unfolding plan_of
  lost_at = refl
