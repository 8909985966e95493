-- What the library's chains of iterators compute, in the words of specs/Lists.
use Rattle.std.proofs.Common.{◌≡◌, ℕ, zero, suc, ◌+◌, ◌<◌, ◌≤◌, arith, Bool, true, false, ◌&&◌, ◌||◌, List, [], ◌∷◌, ◌++◌, get_or, map, sum, sum_by, fold, reverse, refl, ap, subst, ◌∙◌}
use mathlib.Core.Logic.{⊎_elim}
use native.Mathlib.Nat.{eq-or-lt_of_le}
use denote.Param.Members.{Mut}
use Rattle.std.specs.Fn.{Called}
use Rattle.std.specs.Array.{IsFromFnResult, IsFromFnResultFrom}
use Rattle.std.specs.Int.{from_bool}
use Rattle.std.specs.List.{list_all, list_any, range_with_len}
use Rattle.std.proofs.lemmas.Grind.{reverse_onto}
use Rattle.std.proofs.lemmas.List.Sums.{sum-map, sum_by-cons}
use Rattle.std.proofs.lemmas.List.FromFn.{fill_by_all}
use Rattle.logic.specs.Rules.{both, either, bit, all_below, some_below}
use Rattle.logic.specs.Lists.{all_of, total, along, back}

module _ {A : Type 0} where
  pub list_all_is_all_of : (p : A → Bool) (xs : List A) → list_all p xs ≡ all_of p xs
  unfolding all_of
  list_all_is_all_of p [] = refl
  list_all_is_all_of p (x ∷ xs) = rw (list_all_is_all_of p xs) (and_both (p x) (all_of p xs))
    where
      and_both : (a b : Bool) → (a && b) ≡ both a b
      and_both true b = refl
      and_both false b = refl

  pub sum_by_is_total : (f : A → ℕ) (xs : List A) → sum_by f xs ≡ total f xs
  unfolding total
  sum_by_is_total f [] = refl
  sum_by_is_total f (x ∷ xs) = sum_by-cons f x xs ∙ ap (λ n. f x + n) (sum_by_is_total f xs)

  pub sum_is_total : (f : A → ℕ) (xs : List A) → sum (map f xs) ≡ total f xs
  sum_is_total f xs = sum-map f xs ∙ sum_by_is_total f xs

  module _ {S : Type 0} (f : A → S → S) where
    pub fold_is_along : (s : S) (xs : List A) → fold (λ s x. f x s) s xs ≡ along f xs s
    unfolding along
    fold_is_along s [] = refl
    fold_is_along s (x ∷ xs) = fold_is_along (f x s) xs

    pub fold_is_back : (s : S) (xs : List A) → fold (λ s x. f x s) s (reverse xs) ≡ back f xs s
    unfolding back
    fold_is_back s [] = refl
    fold_is_back s (x ∷ xs) = ap (fold (λ s x. f x s) s) (reverse_onto xs x []) ∙ fold_push (reverse xs) s ∙ ap (f x) (fold_is_back s xs)
      where
        fold_push : (ys : List A) (s : S) → fold (λ s x. f x s) s (ys ++ (x ∷ [])) ≡ f x (fold (λ s x. f x s) s ys)
        fold_push [] s = refl
        fold_push (y ∷ ys) s = fold_push ys (f y s)

range_last : (a n b : ℕ) → a + n ≡ b → range_with_len a (suc n) ≡ range_with_len a n ++ (b ∷ [])
range_last a zero b e = ap (λ x. x ∷ []) (omega arith)
range_last a (suc n) b e = ap (λ xs. a ∷ xs) (range_last (a + 1) n b (omega arith))

-- a test of every number below n
module _ (f : ℕ → Bool) where
  pub list_all_is_all_below : (n : ℕ) → list_all f (range_with_len 0 n) ≡ all_below n f
  list_all_is_all_below zero = refl
  list_all_is_all_below (suc n) =
      ap (list_all f) (range_last 0 n n (omega arith)) ∙ all_last (range_with_len 0 n) n ∙ ap (both (f n)) (list_all_is_all_below n)
    where
      all_last : (xs : List ℕ) (x : ℕ) → list_all f (xs ++ (x ∷ [])) ≡ both (f x) (list_all f xs)
      all_last [] x = by_test (f x)
        where
          by_test : (a : Bool) → (a && true) ≡ both a true
          by_test true = refl
          by_test false = refl
      all_last (y ∷ ys) x = rw (all_last ys x) (by_tests (f y) (f x) (list_all f ys))
        where
          by_tests : (a b c : Bool) → (a && both b c) ≡ both b (a && c)
          by_tests true b c = refl
          by_tests false true c = refl
          by_tests false false c = refl

  -- and one that some number below n passes
  pub list_any_is_some_below : (n : ℕ) → list_any f (range_with_len 0 n) ≡ some_below n f
  list_any_is_some_below zero = refl
  list_any_is_some_below (suc n) =
      ap (list_any f) (range_last 0 n n (omega arith)) ∙ any_last (range_with_len 0 n) n ∙ ap (either (f n)) (list_any_is_some_below n)
    where
      any_last : (xs : List ℕ) (x : ℕ) → list_any f (xs ++ (x ∷ [])) ≡ either (f x) (list_any f xs)
      any_last [] x = by_test (f x)
        where
          by_test : (a : Bool) → (a || false) ≡ either a false
          by_test true = refl
          by_test false = refl
      any_last (y ∷ ys) x = rw (any_last ys x) (by_tests (f y) (f x) (list_any f ys))
        where
          by_tests : (a b c : Bool) → (a || either b c) ≡ either b (a || c)
          by_tests true true c = refl
          by_tests true false c = refl
          by_tests false b c = refl

-- a Boolean converted to a number
pub from_bool_is_bit : (b : Bool) → from_bool b ≡ bit b
from_bool_is_bit true = refl
from_bool_is_bit false = refl

-- `&` and `|` of two Booleans
pub and_both : (a b : Bool) → (a && b) ≡ both a b
and_both true b = refl
and_both false b = refl

pub or_either : (a b : Bool) → (a || b) ≡ either a b
or_either true b = refl
or_either false b = refl

-- an array made by a function of the index
module _ {F B : Type 0} (g : Mut F (ℕ × Unit {0}) B) (h : ℕ → B) (f : F)
    (stays : (i : ℕ) (y : B) (q : F) → Called g f (i, tt) y q → (q ≡ f) × (y ≡ h i)) where
  made_at : (ys : List B) (n i : ℕ) → IsFromFnResultFrom g f ys i n → (k : ℕ) (d : B) → i ≤ k → k < i + n → get_or ys k d ≡ h k
  made_at ys zero i e k d l m = absurd (omega arith)
  made_at ys (suc n) i e k d l m =
      let s = stays i e.1 e.0 e.3 in
      ⊎_elim (λ (j : i ≡ k). subst (λ (x : ℕ). get_or ys x d ≡ h x) j (e.2.1 d ∙ s.1))
      (λ (j : i < k). made_at ys n (i + 1) (subst (λ (q : F). IsFromFnResultFrom g q ys (i + 1) n) s.0 e.4) k d (omega arith) (omega arith))
      (eq-or-lt_of_le l)

  pub made_from_fn : (ys : List B) (n : ℕ) (d : B) → IsFromFnResult g f ys n → ys ≡ map h (range_with_len 0 n)
  made_from_fn ys n d r = fill_by_all h ys n d r.long (λ k l. made_at ys n 0 r.each k d (omega arith) (omega arith))
