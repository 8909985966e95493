-- The allowed layouts: which bytes they are and, computed for each, that it is in order and on which wires it puts the outputs.
use mathlib.Core.Path.{◌≡◌, refl}
use mathlib.Core.Logic.{⊎_elim}
use mathlib.Core.Bool.{Bool, true, false}
use mathlib.Core.List.Memᴰ
use mathlib.Core.List.{[], ◌∷◌, Memᴰ}
use Prim.Native.Nat.{ℕ, ◌≤◌, ◌<◌}
use native.Mathlib.Decide.{ℕ_discrete}
use native.Mathlib.Omega.{arith}
use borrow.Author.Tests.{ltb-true, leb-true, eqb-true, eq-eqb}
use lib.Dec.{ltb, leb, eqb}
use Rattle.logic.specs.Rules.{both, pick, all_below, count_below}
use Rattle.logic.specs.Lists.{all_of, keep_only, numbers_from}
use Rattle.logic.proofs.Chain.{both_left, both_right}
use Rattle.logic.proofs.Below.{below}
use Rattle.logic.proofs.Members.{all_member, keep_is, keep_has, numbers_has}
use Rattle.table.specs.layouts.Layouts.{Width, wire_of, layout_ok, layouts_for, plain, allowed}
use Rattle.table.proofs.layouts.Named.{fixed}

-- output j's wire is a data wire; at most one output is on wire w; output j is on wire j
abbrev on_data : ℕ → ℕ → ℕ → Bool
on_data n p j = ltb (wire_of p j) n

abbrev on_wire : ℕ → ℕ → ℕ → Bool
on_wire p w j = eqb (wire_of p j) w

abbrev once : ℕ → ℕ → ℕ → Bool
once n p w = leb (count_below n (on_wire p w)) 1

abbrev straight_at : ℕ → ℕ → Bool
straight_at p j = eqb (wire_of p j) j

abbrev orderly : ℕ → ℕ → Bool
orderly n p = both (both (ltb p 256) (layout_ok n p)) (both (all_below n (on_data n p)) (all_below 5 (once n p)))

abbrev straight : ℕ → ℕ → Bool
straight n p = all_below n (straight_at p)

free_three : all_of (orderly 3) (layouts_for 3 1) ≡ true
unfolding all_of layouts_for layout_ok
free_three = refl

free_four : all_of (orderly 4) (layouts_for 4 1) ≡ true
unfolding all_of layouts_for layout_ok
free_four = refl

fixed_three : all_of (orderly 3) (plain 3 ∷ []) ≡ true
unfolding all_of layout_ok
fixed_three = refl

fixed_four : all_of (orderly 4) (plain 4 ∷ []) ≡ true
unfolding all_of layout_ok
fixed_four = refl

straight_three : all_of (straight 3) (plain 3 ∷ []) ≡ true
unfolding all_of
straight_three = refl

straight_four : all_of (straight 4) (plain 4 ∷ []) ≡ true
unfolding all_of
straight_four = refl

all_orderly : (n free : ℕ) → Width n → all_of (orderly n) (layouts_for n free) ≡ true
all_orderly n free width = by_free (ℕ_discrete free 1)
  where
    by_free : Dec (free ≡ 1) → all_of (orderly n) (layouts_for n free) ≡ true
    by_free (yes e) = rw e (⊎_elim (λ (h : n ≡ 3). rw h free_three) (λ (h : n ≡ 4). rw h free_four) width)
    by_free (no h) = rw (fixed n free h) (⊎_elim (λ (h : n ≡ 3). rw h fixed_three) (λ (h : n ≡ 4). rw h fixed_four) width)

all_straight : (n free : ℕ) → Width n → (free ≡ 1 → ⊥) → all_of (straight n) (layouts_for n free) ≡ true
all_straight n free width h = rw (fixed n free h) (⊎_elim (λ (h : n ≡ 3). rw h straight_three) (λ (h : n ≡ 4). rw h straight_four) width)

module _ (n free p : ℕ) (width : Width n) (m : Memᴰ p (layouts_for n free)) where
  order : orderly n p ≡ true
  order = all_member (orderly n) p (layouts_for n free) (all_orderly n free width) m

  pub allowed_ok : (p < 256) × (layout_ok n p ≡ true)
  allowed_ok =
      let b = both_left (both (ltb p 256) (layout_ok n p)) (both (all_below n (on_data n p)) (all_below 5 (once n p))) order in
      (ltb-true p 256 (both_left (ltb p 256) (layout_ok n p) b), both_right (ltb p 256) (layout_ok n p) b)

  rest : both (all_below n (on_data n p)) (all_below 5 (once n p)) ≡ true
  rest = both_right (both (ltb p 256) (layout_ok n p)) (both (all_below n (on_data n p)) (all_below 5 (once n p))) order

  -- each output of a job is on a data wire
  pub wire_within : (j : ℕ) → j < n → wire_of p j < n
  wire_within j h = ltb-true (wire_of p j) n (below n (on_data n p) (both_left (all_below n (on_data n p)) (all_below 5 (once n p)) rest) j h)

  -- and no two on the same
  pub wire_once : (w : ℕ) → w < 5 → count_below n (λ j. eqb (wire_of p j) w) ≤ 1
  wire_once w h =
      leb-true (count_below n (on_wire p w)) 1 (below 5 (once n p) (both_right (all_below n (on_data n p)) (all_below 5 (once n p)) rest) w h)

  pub wire_fixed : (free ≡ 1 → ⊥) → (j : ℕ) → j < n → wire_of p j ≡ j
  wire_fixed f j h =
      eqb-true (wire_of p j) j (below n (straight_at p) (all_member (straight n) p (layouts_for n free) (all_straight n free width f) m) j h)

module _ (n free p : ℕ) where
  -- the layouts listed are exactly the bytes allowed
  pub layout_is : Memᴰ p (layouts_for n free) → allowed n free p ≡ true
  unfolding layouts_for allowed
  layout_is m = by_free (eqb free 1) m
    where
      by_free : (t : Bool) → Memᴰ p (pick t (keep_only (layout_ok n) (numbers_from 0 256)) (plain n ∷ []))
          → pick t (layout_ok n p) (eqb p (plain n)) ≡ true
      by_free true k = (keep_is (layout_ok n) (numbers_from 0 256) p k).0
      by_free false k = eq-eqb p (plain n) (Memᴰ.eq_of_singleton k)

  pub layout_has : p < 256 → allowed n free p ≡ true → Memᴰ p (layouts_for n free)
  unfolding layouts_for allowed
  layout_has hp h = by_free (eqb free 1) h
    where
      by_free : (t : Bool) → pick t (layout_ok n p) (eqb p (plain n)) ≡ true
          → Memᴰ p (pick t (keep_only (layout_ok n) (numbers_from 0 256)) (plain n ∷ []))
      by_free true k = keep_has (layout_ok n) (numbers_from 0 256) p k (numbers_has 256 0 p (omega arith) hp)
      by_free false k = Memᴰ.head (eqb-true p (plain n) k)
