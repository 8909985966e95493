-- What the table of products holds, read back at a place.
use mathlib.Core.Path.{◌≡◌, refl, sym, ap, ap₂, ◌∙◌}
use mathlib.Core.Logic.{⊎_elim}
use mathlib.Core.Bool.{Bool, true, false}
use mathlib.Core.List.{List, [], ◌∷◌, ◌++◌, map}
use Prim.Native.Nat.{ℕ, ◌*◌, ◌%◌, ◌^◌, ◌≤◌, ◌<◌}
use native.Mathlib.Omega.{arith}
use native.Mathlib.Nat.{zero-add}
use borrow.Author.Tests.{le-leb}
use lib.Bits.{bit_xor}
use lib.Count.{ones, ones_in, count_trailing_zeros, count_leading_zeros}
use lib.Dec.{eqb, lit<}
use lib.ListN.{length, get_or, get_or-append, get_or-map}
use lib.Seq.{get_or-set_same}
use Rattle.logic.specs.Lists.{numbers_from}
use Rattle.logic.proofs.Members.{numbers_at}
use Rattle.logic.proofs.Bits.{shifted_one}
use Rattle.gate.specs.Gates.{target_of, mask_of, lawful, gate_of}
use Rattle.gate.specs.Inner.{firing, column_step}
use Rattle.gate.proofs.Widen.{parts}
use Rattle.columns.specs.declared.Wanted.{Wanted}
use Rattle.outputs.specs.Owed.{Controls, product}
use Rattle.outputs.proofs.Wires.{by_five}
use Rattle.outputs.specs.products.Products.{product_up_to, masks_of, products_of, four, table_of}

module _ (k : ℕ) (t : Wanted) (cs : List ℕ) where
  none_of_five : Controls k → product_up_to k cs 31 ≡ 0
  unfolding ones ones_in
  none_of_five hk = ⊎_elim (λ (e : k ≡ 2). rw e) (λ (e : k ≡ 3). rw e) hk

  product_at : Controls k → (m : ℕ) → m < 32 → get_or (table_of k t cs) m 0 ≡ product_up_to k cs m
  unfolding table_of
  product_at hk m h =
      get_or-append (map (product_up_to k cs) (numbers_from 0 32)) (four t.value ++ four t.care) 0 m h
      ∙ ap (get_or (map (product_up_to k cs) (numbers_from 0 32)) m) (sym (none_of_five hk))
      ∙ get_or-map (product_up_to k cs) (numbers_from 0 32) m 31
      ∙ ap (product_up_to k cs) (numbers_at 32 0 m 31 h ∙ zero-add m)

  product_few : Controls k → (m : ℕ) → m < 32 → ones m ≤ k → get_or (table_of k t cs) m 0 ≡ product cs m
  product_few hk m h l = product_at hk m h ∙ rw (le-leb (ones m) k l)

  column_at : Controls k → (w : ℕ) → w < 5 → get_or (table_of k t cs) (2 ^ w) 0 ≡ get_or cs w 0
  unfolding table_of ones ones_in count_trailing_zeros count_leading_zeros
  column_at hk w h =
      ⊎_elim
      (λ (e : k ≡ 2). rw e (by_five (λ i. get_or (table_of 2 t cs) (2 ^ i) 0 ≡ get_or cs i 0) refl refl refl refl refl w h))
      (λ (e : k ≡ 3). rw e (by_five (λ i. get_or (table_of 3 t cs) (2 ^ i) 0 ≡ get_or cs i 0) refl refl refl refl refl w h))
      hk

  -- the target's column after a gate
  next_column : Controls k → (g : ℕ) → lawful k 5 g ≡ true → length cs ≡ 5
      → bit_xor (get_or (table_of k t cs) (2 ^ target_of g) 0) (get_or (table_of k t cs) (mask_of g) 0) ≡ get_or (column_step (gate_of g) cs) (target_of g) 0
  unfolding column_step gate_of
  next_column hk g h l =
      let p = parts k 5 g h in
      let ht : target_of g < 5 = p.target in
      ap₂ bit_xor (column_at hk (target_of g) ht) (product_few hk (mask_of g) (omega arith) p.few)
      ∙ sym (get_or-set_same cs (target_of g) (bit_xor (get_or cs (target_of g) 0) (firing (gate_of g).kind cs)) 0 (omega arith))

-- the products of few wires and of more, each at the place of its mask, and the wanted columns
abbrev pub at_masks : List ℕ → List ℕ → List ℕ → List ℕ → List ℕ
at_masks ps qs value care =
    get_or ps 0 0 ∷ get_or ps 1 0 ∷ get_or ps 2 0 ∷ get_or ps 3 0 ∷ get_or ps 4 0 ∷ get_or ps 5 0 ∷ get_or ps 6 0 ∷ get_or qs 0 0 ∷
    get_or ps 7 0 ∷ get_or ps 8 0 ∷ get_or ps 9 0 ∷ get_or qs 1 0 ∷ get_or ps 10 0 ∷ get_or qs 2 0 ∷ get_or qs 3 0 ∷ 0 ∷
    get_or ps 11 0 ∷ get_or ps 12 0 ∷ get_or ps 13 0 ∷ get_or qs 5 0 ∷ get_or ps 14 0 ∷ get_or qs 6 0 ∷ get_or qs 7 0 ∷ 0 ∷
    get_or ps 15 0 ∷ get_or qs 9 0 ∷ get_or qs 10 0 ∷ 0 ∷ get_or qs 12 0 ∷ 0 ∷ 0 ∷ 0 ∷
    get_or value 0 0 ∷ get_or value 1 0 ∷ get_or value 2 0 ∷ get_or value 3 0 ∷ get_or care 0 0 ∷ get_or care 1 0 ∷ get_or care 2 0 ∷ get_or care 3 0 ∷ []

-- the masks of at most two wires, and those of more
abbrev pub listed : Bool → List ℕ
listed false = 0 ∷ 1 ∷ 2 ∷ 3 ∷ 4 ∷ 5 ∷ 6 ∷ 8 ∷ 9 ∷ 10 ∷ 12 ∷ 16 ∷ 17 ∷ 18 ∷ 20 ∷ 24 ∷ []
listed true = 7 ∷ 11 ∷ 13 ∷ 14 ∷ 15 ∷ 19 ∷ 21 ∷ 22 ∷ 23 ∷ 25 ∷ 26 ∷ 27 ∷ 28 ∷ 29 ∷ 30 ∷ 31 ∷ []

pub masks_listed : (wide : Bool) → masks_of wide ≡ listed wide
unfolding ones ones_in
masks_listed false = refl
masks_listed true = refl

module _ (t : Wanted) (cs : List ℕ) where
  abbrev at_places : ℕ → List ℕ
  at_places k = at_masks (map (product_up_to 3 cs) (listed false)) (map (product_up_to k cs) (listed true)) t.value t.care

  two_at_masks : at_places 2 ≡ table_of 2 t cs
  unfolding table_of ones ones_in count_trailing_zeros count_leading_zeros
  two_at_masks = refl

  three_at_masks : at_places 3 ≡ table_of 3 t cs
  unfolding table_of ones ones_in count_trailing_zeros count_leading_zeros
  three_at_masks = refl

pub at_masks_law : (k : ℕ) → Controls k → (t : Wanted) (cs : List ℕ) → at_masks (products_of 3 false cs) (products_of k true cs) t.value t.care ≡ table_of k t cs
unfolding products_of
at_masks_law k hk t cs =
    ap₂ (λ (ms ns : List ℕ). at_masks (map (product_up_to 3 cs) ms) (map (product_up_to k cs) ns) t.value t.care) (masks_listed false) (masks_listed true)
    ∙ ⊎_elim (λ (e : k ≡ 2). rw e (two_at_masks t cs)) (λ (e : k ≡ 3). rw e (three_at_masks t cs)) hk

-- the place of a wire's own column in the table
pub own_lt : (w : ℕ) → w < 5 → 1 * 2 ^ w % 2 ^ 64 < 32
own_lt = by_five (λ w. 1 * 2 ^ w % 2 ^ 64 < 32) (lit< tt) (lit< tt) (lit< tt) (lit< tt) (lit< tt)

-- the target's column, as the code reads it from the table
pub next_read : (k g : ℕ) → Controls k → lawful k 5 g ≡ true → (t : Wanted) (cs table : List ℕ) → length cs ≡ 5 → table ≡ table_of k t cs
    → bit_xor (get_or table (1 * 2 ^ target_of g % 2 ^ 64) 0) (get_or table (mask_of g) 0) ≡ get_or (column_step (gate_of g) cs) (target_of g) 0
next_read k g hk hg t cs table l ht =
    let h = (parts k 5 g hg).target in
    rw (ht, shifted_one (target_of g) (omega arith)) (next_column k t cs hk g hg l)

-- whether a gate fires in no row, as the code reads it from the table
pub idle_read : (k g : ℕ) → Controls k → lawful k 5 g ≡ true → (t : Wanted) (cs table : List ℕ) → table ≡ table_of k t cs
    → eqb (get_or table (mask_of g) 0) 0 ≡ eqb (firing (gate_of g).kind cs) 0
unfolding gate_of
idle_read k g hk hg t cs table ht =
    ap (λ (x : ℕ). eqb x 0) (ap (λ (l : List ℕ). get_or l (mask_of g) 0) ht ∙ product_few k t cs hk (mask_of g) (omega arith) (parts k 5 g hg).few)
