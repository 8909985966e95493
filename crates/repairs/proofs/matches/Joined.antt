-- The OR of bits as numbers is the bit of either test; and four outputs are asked for at once as each alone.
use mathlib.Core.Path.{◌≡◌, refl, ap, ap₂, ◌∙◌}
use mathlib.Core.Logic.{⊎_elim}
use mathlib.Core.Bool.{Bool, true, false, not}
use mathlib.Core.List.{List, [], ◌∷◌, map}
use Prim.Native.Nat.{ℕ, zero, suc, ◌+◌, ◌<◌}
use native.Mathlib.Decide.{ℕ_discrete}
use native.Mathlib.Omega.{arith}
use borrow.Author.Tests.{eq-eqb, ne_eqb}
use lib.Bits.{bit_or}
use lib.Count.{ones, ones_in, count_trailing_zeros, count_leading_zeros}
use lib.Dec.{eqb, lit<}
use native.Mathlib.Numerals.{add-one}
use lib.ListN.{length, get_or}
use Rattle.logic.specs.Rules.{both, either, pick, bit, some_below}
use Rattle.logic.proofs.Chain.{either_none}
use Rattle.table.specs.layouts.Layouts.{Width}
use Rattle.columns.specs.declared.Wanted.{Wanted}
use Rattle.columns.specs.Wanted.{misses}
use Rattle.outputs.specs.Owed.{missed, adds, mendable_on, mendable, fixable}
use Rattle.outputs.proofs.Wires.{by_five}
use Rattle.outputs.proofs.Counted.{bit_one}
use Rattle.outputs.specs.products.Products.{product_up_to, part, products_of}
use Rattle.outputs.proofs.products.Tables.{listed, masks_listed}
use Rattle.repairs.specs.declared.matches.Lack.{Lack}
use Rattle.repairs.specs.matches.Inner.{others_of, hit_bit, any_hit, hits_of, lack_of, lack_on, lack_last, wire_hits, fixes_on}

or_bits : (a b : Bool) → bit_or (bit a) (bit b) ≡ bit (either a b)
or_bits true true = refl
or_bits true false = refl
or_bits false true = refl
or_bits false false = refl

module _ (a b c d : Bool) (x y z v : ℕ) (hx : x ≡ bit a) (hy : y ≡ bit b) (hz : z ≡ bit c) (hv : v ≡ bit d) where
  or_four : bit_or v (bit_or z (bit_or y x)) ≡ bit (either d (either c (either b a)))
  or_four = ap₂ bit_or hv (ap₂ bit_or hz (ap₂ bit_or hy hx ∙ or_bits b a) ∙ or_bits c (either b a)) ∙ or_bits d (either c (either b a))

fourth : (q : Bool) (x : ℕ) (p : Bool) → x ≡ bit p → pick q x 0 ≡ bit (both q p)
fourth true x p h = h
fourth false x p h = refl

pub bit_none : (a : Bool) → eqb (bit a) 0 ≡ not a
bit_none true = refl
bit_none false = refl

pub either_swap : (a b c d : Bool) → either (either a b) (either c d) ≡ either (either a c) (either b d)
either_swap true b c d = refl
either_swap false true true d = refl
either_swap false true false d = refl
either_swap false false c d = refl

pub some_either : (n : ℕ) (f g : ℕ → Bool) → some_below n (λ i. either (f i) (g i)) ≡ either (some_below n f) (some_below n g)
some_either zero f g = refl
some_either (suc n) f g = rw (some_either n f g) (either_swap (f n) (g n) (some_below n f) (some_below n g))

-- some product is what is lacking
abbrev hit_by : List ℕ → Lack → Bool
hit_by ps l = some_below 16 (λ i. hit_bit i (get_or ps i 0) l)

-- some allowed product is what is wanted in the rows that care
abbrev found : List ℕ → ℕ → ℕ → ℕ → Bool
found ps allowed care want = hit_by ps (record { allowed = allowed; care = care; rows = want })

module _ (ps : List ℕ) where
  -- where no row is missed, no product is allowed
  lacking : (allowed care rows : ℕ) → hit_by ps (lack_of allowed care rows) ≡ both (not (eqb rows 0)) (found ps allowed care rows)
  lacking allowed care rows = by_miss (ℕ_discrete rows 0)
    where
      by_miss : Dec (rows ≡ 0) → hit_by ps (lack_of allowed care rows) ≡ both (not (eqb rows 0)) (found ps allowed care rows)
      by_miss (yes e) = rw (eq-eqb rows 0 e)
      by_miss (no n) = rw (ne_eqb rows 0 n)

  -- four outputs are asked for at once as each alone
  four_hits : (a b c d : Lack) → hits_of ps a b c d ≡ either (hit_by ps d) (either (hit_by ps c) (either (hit_by ps b) (hit_by ps a)))
  unfolding hits_of
  four_hits a b c d =
      let f : Lack → ℕ → Bool = λ l i. hit_bit i (get_or ps i 0) l in
      some_either 16 (f d) (λ i. either (f c i) (either (f b i) (f a i)))
      ∙ ap (either (hit_by ps d))
      (some_either 16 (f c) (λ i. either (f b i) (f a i)) ∙ ap (either (hit_by ps c)) (some_either 16 (f b) (f a)))

  -- one more product
  pub turn : (a b c d : Lack) (i any o₀ o₁ o₂ o₃ : ℕ)
      → o₀ ≡ bit (hit_bit i (get_or ps i 0) a) → o₁ ≡ bit (hit_bit i (get_or ps i 0) b)
      → o₂ ≡ bit (hit_bit i (get_or ps i 0) c) → o₃ ≡ bit (hit_bit i (get_or ps i 0) d)
      → any ≡ bit (some_below i (any_hit ps a b c d))
      → bit_or (bit_or o₃ (bit_or o₂ (bit_or o₁ o₀))) any ≡ bit (some_below (i + 1) (any_hit ps a b c d))
  turn a b c d i any o₀ o₁ o₂ o₃ h₀ h₁ h₂ h₃ h =
      rw (add-one)
      (ap₂ bit_or
      (or_four (hit_bit i (get_or ps i 0) a) (hit_bit i (get_or ps i 0) b) (hit_bit i (get_or ps i 0) c) (hit_bit i (get_or ps i 0) d) o₀ o₁ o₂ o₃ h₀ h₁ h₂ h₃) h
      ∙ or_bits (any_hit ps a b c d i) (some_below i (any_hit ps a b c d)))

-- the products of other wires are those of the masks that a gate on the wire may have
module _ (cs : List ℕ) (care want : ℕ) where
  abbrev among : Bool → ℕ → Bool
  among wide w = found (map (product_up_to 3 cs) (listed wide)) (others_of wide w) care want

  some_added : (wide : Bool) (w : ℕ) → w < 5 → among wide w ≡ adds (part wide) cs w care want
  unfolding adds ones ones_in count_trailing_zeros count_leading_zeros
  some_added false = by_five (λ w. among false w ≡ adds (part false) cs w care want) refl refl refl refl refl
  some_added true = by_five (λ w. among true w ≡ adds (part true) cs w care want) refl refl refl refl refl

  added_is : (wide : Bool) (ps : List ℕ) → ps ≡ products_of 3 wide cs → (w : ℕ) → w < 5
      → found ps (others_of wide w) care want ≡ adds (part wide) cs w care want
  unfolding products_of
  added_is wide ps hp w h =
      ap (λ (l : List ℕ). found l (others_of wide w) care want) (hp ∙ ap (map (product_up_to 3 cs)) (masks_listed wide)) ∙ some_added wide w h

mended_is : (wide : Bool) (t : Wanted) (cs ps : List ℕ) → ps ≡ products_of 3 wide cs → (w j : ℕ) → w < 4
    → hit_by ps (lack_on wide t cs w j) ≡ mendable_on (part wide) t cs w j
unfolding mendable_on
mended_is wide t cs ps hp w j h =
    lacking ps (others_of wide w) (get_or t.care j 0) (misses t (get_or cs w 0) j)
    ∙ ap (both (missed t cs w j)) (added_is cs (get_or t.care j 0) (misses t (get_or cs w 0) j) wide ps hp w (omega arith))

-- a test of one output is that of four, with nothing lacking of three
pub one_is : (wide : Bool) (cs ps : List ℕ) (w care want : ℕ) → w < 5 → ps ≡ products_of 3 wide cs
    → hits_of ps (lack_of (others_of wide w) care want) (lack_of 0 0 0) (lack_of 0 0 0) (lack_of 0 0 0)
    ≡ both (not (eqb want 0)) (adds (part wide) cs w care want)
one_is wide cs ps w care want h hp =
    let one = lack_of (others_of wide w) care want in
    let nothing = lack_of 0 0 0 in
    let none : hit_by ps nothing ≡ false = lacking ps 0 0 0 in
    four_hits ps one nothing nothing nothing
    ∙ (λ i. either (none i) (either (none i) (either (none i) (hit_by ps one))))
    ∙ lacking ps (others_of wide w) care want
    ∙ ap (both (not (eqb want 0))) (added_is cs care want wide ps hp w h)

module _ (n : ℕ) (width : Width n) where
  -- some wire, where the fourth counts with four only
  some_wire : (f : ℕ → Bool) → either (both (eqb n 4) (f 3)) (either (f 2) (either (f 1) (f 0))) ≡ some_below n f
  some_wire f =
      ⊎_elim (λ (e : n ≡ 3). rw e (last (f 2) (f 1))) (λ (e : n ≡ 4). rw e (ap (either (f 3)) (last (f 2) (f 1)))) width
    where
      last : (a b : Bool) → either a (either b (f 0)) ≡ either a (either b (either (f 0) false))
      last a b = ap (λ x. either a (either b x)) (either_none (f 0))

module _ (wide : Bool) (t : Wanted) (cs : List ℕ) (n : ℕ) (width : Width n) where
  -- four outputs on four wires, of which the fourth counts with four only
  pub outputs_are : (ps : List ℕ) → ps ≡ products_of 3 wide cs → (wire : ℕ → ℕ) → ((j : ℕ) → j < 4 → wire j < 4)
      → hits_of ps (lack_on wide t cs (wire 0) 0) (lack_on wide t cs (wire 1) 1) (lack_on wide t cs (wire 2) 2) (lack_last wide t cs n (wire 3))
      ≡ some_below n (λ j. mendable_on (part wide) t cs (wire j) j)
  outputs_are ps hp wire h =
      four_hits ps (lack_on wide t cs (wire 0) 0) (lack_on wide t cs (wire 1) 1) (lack_on wide t cs (wire 2) 2) (lack_last wide t cs n (wire 3))
      ∙ (λ i. either (last i) (either (on 2 (lit< tt) i) (either (on 1 (lit< tt) i) (on 0 (lit< tt) i))))
      ∙ some_wire n width (λ j. mendable_on (part wide) t cs (wire j) j)
    where
      on : (j : ℕ) → j < 4 → hit_by ps (lack_on wide t cs (wire j) j) ≡ mendable_on (part wide) t cs (wire j) j
      on j l = mended_is wide t cs ps hp (wire j) j (h j l)

      last : hit_by ps (lack_last wide t cs n (wire 3)) ≡ both (eqb n 4) (mendable_on (part wide) t cs (wire 3) 3)
      last =
          ⊎_elim (λ (e : n ≡ 3). rw e (lacking ps (others_of wide (wire 3)) (get_or t.care 3 0) 0)) (λ (e : n ≡ 4). rw e (on 3 (lit< tt))) width

  pub wire_is : (ps : List ℕ) → ps ≡ products_of 3 wide cs → (w : ℕ) → w < 4 → wire_hits wide ps t cs n w ≡ some_below n (mendable_on (part wide) t cs w)
  unfolding wire_hits
  wire_is ps hp w h = outputs_are ps hp (λ j. w) (λ j l. h)

  pub free_mendable : (free : ℕ) → free ≡ 1 → (ps : List ℕ) → ps ≡ products_of 3 wide cs → (a b c d : ℕ)
      → a ≡ bit (wire_hits wide ps t cs n 0) → b ≡ bit (wire_hits wide ps t cs n 1)
      → c ≡ bit (wire_hits wide ps t cs n 2) → d ≡ bit (wire_hits wide ps t cs n 3)
      → bit_or (pick (eqb n 4) d 0) (bit_or c (bit_or b a)) ≡ bit (mendable (part wide) t cs n free)
  unfolding mendable
  free_mendable free e ps hp a b c d ha hb hc hd =
      rw (eq-eqb free 1 e)
      (or_four (f 0) (f 1) (f 2) (both (eqb n 4) (f 3)) a b c (pick (eqb n 4) d 0)
      (ha ∙ ap bit (at 0 (lit< tt))) (hb ∙ ap bit (at 1 (lit< tt))) (hc ∙ ap bit (at 2 (lit< tt))) (fourth (eqb n 4) d (f 3) (hd ∙ ap bit (at 3 (lit< tt))))
      ∙ ap bit (some_wire n width f))
    where
      f : ℕ → Bool
      f w = some_below n (mendable_on (part wide) t cs w)

      at : (w : ℕ) → w < 4 → wire_hits wide ps t cs n w ≡ f w
      at = wire_is ps hp

  pub fixed_mendable : (free : ℕ) → (free ≡ 1 → ⊥) → (ps : List ℕ) → ps ≡ products_of 3 wide cs
      → hits_of ps (lack_on wide t cs 0 0) (lack_on wide t cs 1 1) (lack_on wide t cs 2 2) (lack_last wide t cs n 3) ≡ mendable (part wide) t cs n free
  unfolding mendable
  fixed_mendable free e ps hp = rw (ne_eqb free 1 e) (outputs_are ps hp (λ j. j) (λ j l. l))

-- the data wires and the ancilla, asked one by one
module _ (allowed : ℕ → Bool) (t : Wanted) (cs : List ℕ) (n free : ℕ) (width : Width n) where
  abbrev on : ℕ → Bool
  on = fixes_on allowed t cs n free

  on_wires : either (on n) (some_below n on) ≡ fixable allowed t cs n free
  unfolding fixes_on fixable mendable
  on_wires = ⊎_elim (λ (e : n ≡ 3). rw e) (λ (e : n ≡ 4). rw e) width

  pub wires_fixable : (a b c d f : ℕ) → a ≡ bit (on 0) → b ≡ bit (on 1) → c ≡ bit (on 2) → d ≡ bit (on 3) → f ≡ bit (on n)
      → eqb (bit_or f (bit_or (pick (eqb n 4) d 0) (bit_or c (bit_or b a)))) 1 ≡ fixable allowed t cs n free
  wires_fixable a b c d f ha hb hc hd hf =
      let wires = or_four (on 0) (on 1) (on 2) (both (eqb n 4) (on 3)) a b c (pick (eqb n 4) d 0) ha hb hc (fourth (eqb n 4) d (on 3) hd) ∙ ap bit (some_wire n width on) in
      ap (λ x. eqb x 1) (ap₂ bit_or hf wires ∙ or_bits (on n) (some_below n on)) ∙ bit_one (either (on n) (some_below n on)) ∙ on_wires

-- five cells are the list that they are read from
pub five_cells : (cs : List ℕ) → length cs ≡ 5 → get_or cs 0 0 ∷ get_or cs 1 0 ∷ get_or cs 2 0 ∷ get_or cs 3 0 ∷ get_or cs 4 0 ∷ [] ≡ cs
five_cells (a ∷ b ∷ c ∷ d ∷ e ∷ []) h = refl
five_cells [] h = absurd (omega arith)
five_cells (a ∷ []) h = absurd (omega arith)
five_cells (a ∷ b ∷ []) h = absurd (omega arith)
five_cells (a ∷ b ∷ c ∷ []) h = absurd (omega arith)
five_cells (a ∷ b ∷ c ∷ d ∷ []) h = absurd (omega arith)
five_cells (a ∷ b ∷ c ∷ d ∷ e ∷ f ∷ l) h = absurd (omega arith)
