-- Folds for loops: what remains to be computed when a loop over a list has passed i elements, one element later, and at the end.
use mathlib.Core.Path.{◌≡◌, refl, sym, ◌∙◌}
use mathlib.Core.Bool.{Bool, true, false}
use mathlib.Core.List.{List, [], ◌∷◌, ◌++◌}
use Prim.Native.Nat.{ℕ, zero, suc, ◌+◌, ◌<◌, ◌≤◌}
use native.Mathlib.Numerals.{add-one}
use native.Mathlib.Nat.{not-suc-le-zero, le_of_suc-le-suc}
use native.Mathlib.Omega.{arith}
use lib.ListN.{length, drop, get_or, drop_of_length-le}
use lib.Seq.{drop-cons}
use Rattle.logic.specs.Rules.{both}
use Rattle.logic.specs.Lists.{all_of, total, along, back}
use Rattle.logic.proofs.Chain.{both_left, both_right}

module _ {A : Type 0} (f : A → Bool) where
  pub all_more : (l : List A) (i : ℕ) (d : A) → i < length l → all_of f (drop i l) ≡ both (f (get_or l i d)) (all_of f (drop (i + 1) l))
  unfolding all_of
  all_more l i d h = rw (add-one, drop-cons l i d h)

  -- one element later, where the result of its test is known
  pub all_turn : (t : Bool) (l : List A) (i : ℕ) (d : A)
      → i < length l
      → f (get_or l i d) ≡ t
      → all_of f (drop i l) ≡ both t (all_of f (drop (i + 1) l))
  all_turn t l i d h e = rw (← e) (all_more l i d h)

  pub all_done : (l : List A) (i : ℕ) → length l ≤ i → all_of f (drop i l) ≡ true
  unfolding all_of
  all_done l i h = rw (drop_of_length-le l h)

  -- a loop that tests one element after another, with the elements from i on still to be tested: it stops at one that fails, goes on
  -- past one that passes, and at the end has tested all
  module _ (l : List A) (i : ℕ) (d : A) (owed : all_of f (drop i l) ≡ all_of f l) where
    pub all_stop : i < length l → f (get_or l i d) ≡ false → false ≡ all_of f l
    all_stop h e = sym (all_turn false l i d h e) ∙ owed

    pub all_step : i < length l → f (get_or l i d) ≡ true → all_of f (drop (i + 1) l) ≡ all_of f l
    all_step h e = sym (all_turn true l i d h e) ∙ owed

    pub all_end : length l ≤ i → true ≡ all_of f l
    all_end h = sym (all_done l i h) ∙ owed

  pub all_at : (l : List A) (i : ℕ) (d : A) → all_of f l ≡ true → i < length l → f (get_or l i d) ≡ true
  unfolding all_of
  all_at [] i d t h = absurd (not-suc-le-zero h)
  all_at (x ∷ xs) zero d t h = both_left (f x) (all_of f xs) t
  all_at (x ∷ xs) (suc i) d t h = all_at xs i d (both_right (f x) (all_of f xs) t) (le_of_suc-le-suc h)

module _ {A : Type 0} (f : A → ℕ) where
  pub total_more : (l : List A) (i : ℕ) (d : A) → i < length l → total f (drop i l) ≡ f (get_or l i d) + total f (drop (i + 1) l)
  unfolding total
  total_more l i d h = rw (add-one, drop-cons l i d h)

  pub total_done : (l : List A) (i : ℕ) → length l ≤ i → total f (drop i l) ≡ 0
  unfolding total
  total_done l i h = rw (drop_of_length-le l h)

  pub total_append : (l m : List A) → total f (l ++ m) ≡ total f l + total f m
  unfolding total
  total_append [] m = omega arith
  total_append (x ∷ xs) m = omega (arith, total_append xs m)

module _ {A S : Type 0} (f : A → S → S) where
  pub along_more : (l : List A) (i : ℕ) (d : A) (s : S) → i < length l → along f (drop i l) s ≡ along f (drop (i + 1) l) (f (get_or l i d) s)
  unfolding along
  along_more l i d s h = rw (add-one, drop-cons l i d h)

  pub along_done : (l : List A) (i : ℕ) (s : S) → length l ≤ i → along f (drop i l) s ≡ s
  unfolding along
  along_done l i s h = rw (drop_of_length-le l h)

  pub along_append : (l m : List A) (s : S) → along f (l ++ m) s ≡ along f m (along f l s)
  unfolding along
  along_append [] m s = refl
  along_append (x ∷ xs) m s = along_append xs m (f x s)

  pub back_more : (l : List A) (i : ℕ) (d : A) (s : S) → i < length l → back f (drop i l) s ≡ f (get_or l i d) (back f (drop (i + 1) l) s)
  unfolding back
  back_more l i d s h = rw (add-one, drop-cons l i d h)

  pub back_done : (l : List A) (i : ℕ) (s : S) → length l ≤ i → back f (drop i l) s ≡ s
  unfolding back
  back_done l i s h = rw (drop_of_length-le l h)
