-- The order of choices is a strict total order.
use mathlib.Core.Path.{◌≡◌, refl, sym, ap, ◌∙◌}
use mathlib.Core.Bool.{Bool, true, false, false≢true}
use mathlib.Core.List.{List, [], ◌∷◌}
use mathlib.Core.Logic.{◌⊎◌, inl, inr, ⊎_elim}
use Prim.Native.Nat.{ℕ, ◌<◌}
use native.Mathlib.Omega.{arith}
use borrow.Author.Tests.{lt-ltb, le-ltb, ltb-true, ltb-false}
use lib.Dec.{ltb}
use lib.ListN.{get_or, drop}
use Rattle.logic.specs.Rules.{pick}
use Rattle.problem.specs.order.Choices.{Choice, lex_less, keys, before}

module _ (x y : ℕ) (xs ys : List ℕ) where
  pub lex_lt : x < y → lex_less (x ∷ xs) (y ∷ ys) ≡ true
  unfolding lex_less
  lex_lt h = rw (lt-ltb x y h)

  pub lex_gt : y < x → lex_less (x ∷ xs) (y ∷ ys) ≡ false
  unfolding lex_less
  lex_gt h = rw (le-ltb x y (omega arith), lt-ltb y x h)

  pub lex_eq : x ≡ y → lex_less (x ∷ xs) (y ∷ ys) ≡ lex_less xs ys
  unfolding lex_less
  lex_eq h = rw (le-ltb x y (omega arith), le-ltb y x (omega arith))

  -- back: what a comparison says of the two heads
  pub lex_true : lex_less (x ∷ xs) (y ∷ ys) ≡ true → (x < y) ⊎ ((x ≡ y) × (lex_less xs ys ≡ true))
  unfolding lex_less
  lex_true h = by_tests (ltb x y) (ltb y x) refl refl h
    where
      by_tests : (s t : Bool)
          → ltb x y ≡ s
          → ltb y x ≡ t
          → pick s true (pick t false (lex_less xs ys)) ≡ true
          → (x < y) ⊎ ((x ≡ y) × (lex_less xs ys ≡ true))
      by_tests true t p q e = inl (ltb-true x y p)
      by_tests false true p q e = absurd (false≢true e)
      by_tests false false p q e = inr (omega (arith, ltb-false x y p, ltb-false y x q), e)

  pub lex_false : lex_less (x ∷ xs) (y ∷ ys) ≡ false → (y < x) ⊎ ((x ≡ y) × (lex_less xs ys ≡ false))
  unfolding lex_less
  lex_false h = by_tests (ltb x y) (ltb y x) refl refl h
    where
      by_tests : (s t : Bool)
          → ltb x y ≡ s
          → ltb y x ≡ t
          → pick s true (pick t false (lex_less xs ys)) ≡ false
          → (y < x) ⊎ ((x ≡ y) × (lex_less xs ys ≡ false))
      by_tests true t p q e = absurd (false≢true (sym e))
      by_tests false true p q e = inl (ltb-true y x q)
      by_tests false false p q e = inr (omega (arith, ltb-false x y p, ltb-false y x q), e)

lex_irreflexive : (l : List ℕ) → lex_less l l ≡ false
unfolding lex_less
lex_irreflexive [] = refl
lex_irreflexive (x ∷ xs) = lex_eq x x xs xs refl ∙ lex_irreflexive xs

lex_asymmetric : (l m : List ℕ) → lex_less l m ≡ true → lex_less m l ≡ false
unfolding lex_less
lex_asymmetric [] [] h = refl
lex_asymmetric [] (y ∷ ys) h = refl
lex_asymmetric (x ∷ xs) [] h = absurd (false≢true h)
lex_asymmetric (x ∷ xs) (y ∷ ys) h =
    ⊎_elim
    (λ (p : x < y). lex_gt y x ys xs p)
    (λ (p : (x ≡ y) × (lex_less xs ys ≡ true)). lex_eq y x ys xs (sym p.0) ∙ lex_asymmetric xs ys p.1)
    (lex_true x y xs ys h)

lex_transitive : (l m n : List ℕ) → lex_less l m ≡ true → lex_less m n ≡ true → lex_less l n ≡ true
unfolding lex_less
lex_transitive [] [] n p q = absurd (false≢true p)
lex_transitive [] (y ∷ ys) [] p q = absurd (false≢true q)
lex_transitive [] (y ∷ ys) (z ∷ zs) p q = refl
lex_transitive (x ∷ xs) [] n p q = absurd (false≢true p)
lex_transitive (x ∷ xs) (y ∷ ys) [] p q = absurd (false≢true q)
lex_transitive (x ∷ xs) (y ∷ ys) (z ∷ zs) p q = by_heads (lex_true x y xs ys p) (lex_true y z ys zs q) (lex_transitive xs ys zs)
  where
    by_heads : (x < y) ⊎ ((x ≡ y) × (lex_less xs ys ≡ true))
        → (y < z) ⊎ ((y ≡ z) × (lex_less ys zs ≡ true))
        → (lex_less xs ys ≡ true → lex_less ys zs ≡ true → lex_less xs zs ≡ true)
        → lex_less (x ∷ xs) (z ∷ zs) ≡ true
    by_heads (inl s) (inl t) again = lex_lt x z xs zs (omega arith)
    by_heads (inl s) (inr t) again = lex_lt x z xs zs (omega arith)
    by_heads (inr s) (inl t) again = lex_lt x z xs zs (omega arith)
    by_heads (inr s) (inr t) again = lex_eq x z xs zs (s.0 ∙ t.0) ∙ again s.1 t.1

lex_not_transitive : (l m n : List ℕ) → lex_less l m ≡ false → lex_less m n ≡ false → lex_less l n ≡ false
unfolding lex_less
lex_not_transitive [] [] n p q = q
lex_not_transitive [] (y ∷ ys) n p q = absurd (false≢true (sym p))
lex_not_transitive (x ∷ xs) m [] p q = refl
lex_not_transitive (x ∷ xs) [] (z ∷ zs) p q = absurd (false≢true (sym q))
lex_not_transitive (x ∷ xs) (y ∷ ys) (z ∷ zs) p q = by_heads (lex_false x y xs ys p) (lex_false y z ys zs q) (lex_not_transitive xs ys zs)
  where
    by_heads : (y < x) ⊎ ((x ≡ y) × (lex_less xs ys ≡ false))
        → (z < y) ⊎ ((y ≡ z) × (lex_less ys zs ≡ false))
        → (lex_less xs ys ≡ false → lex_less ys zs ≡ false → lex_less xs zs ≡ false)
        → lex_less (x ∷ xs) (z ∷ zs) ≡ false
    by_heads (inl s) (inl t) again = lex_gt x z xs zs (omega arith)
    by_heads (inl s) (inr t) again = lex_gt x z xs zs (omega arith)
    by_heads (inr s) (inl t) again = lex_gt x z xs zs (omega arith)
    by_heads (inr s) (inr t) again = lex_eq x z xs zs (s.0 ∙ t.0) ∙ again s.1 t.1

lex_total : (l m : List ℕ) → lex_less l m ≡ false → lex_less m l ≡ false → l ≡ m
unfolding lex_less
lex_total [] [] p q = refl
lex_total [] (y ∷ ys) p q = absurd (false≢true (sym p))
lex_total (x ∷ xs) [] p q = absurd (false≢true (sym q))
lex_total (x ∷ xs) (y ∷ ys) p q = by_heads (lex_false x y xs ys p) (lex_false y x ys xs q) (lex_total xs ys)
  where
    by_heads : (y < x) ⊎ ((x ≡ y) × (lex_less xs ys ≡ false))
        → (x < y) ⊎ ((y ≡ x) × (lex_less ys xs ≡ false))
        → (lex_less xs ys ≡ false → lex_less ys xs ≡ false → xs ≡ ys)
        → x ∷ xs ≡ y ∷ ys
    by_heads (inl s) (inl t) again = absurd (omega arith)
    by_heads (inl s) (inr t) again = absurd (omega arith)
    by_heads (inr s) (inl t) again = absurd (omega arith)
    by_heads (inr s) (inr t) again = cc (again s.1 t.1)

pub irreflexive : (a : Choice) → before a a ≡ false
unfolding before
irreflexive a = lex_irreflexive (keys a)

pub asymmetric : (a b : Choice) → before a b ≡ true → before b a ≡ false
unfolding before
asymmetric a b = lex_asymmetric (keys a) (keys b)

pub transitive : (a b c : Choice) → before a b ≡ true → before b c ≡ true → before a c ≡ true
unfolding before
transitive a b c = lex_transitive (keys a) (keys b) (keys c)

pub not_transitive : (a b c : Choice) → before b a ≡ false → before c b ≡ false → before c a ≡ false
unfolding before
not_transitive a b c p q = lex_not_transitive (keys c) (keys b) (keys a) q p

-- the keys tell the whole choice
pub of_keys : (a b : Choice) → keys a ≡ keys b → a ≡ b
of_keys a b h =
    ap {B = Choice} (λ (l : List ℕ). record { cost = get_or l 0 0; gates = get_or l 1 0; depth = get_or l 2 0; layout = get_or l 3 0; bytes = drop 4 l }) h

pub total : (a b : Choice) → before a b ≡ false → before b a ≡ false → a ≡ b
unfolding before
total a b p q = of_keys a b (lex_total (keys a) (keys b) p q)

-- the order key by key, as document 01 says it: each key decides where those before it are equal
module _ (a b : Choice) where
  pub by_cost : a.cost < b.cost → before a b ≡ true
  unfolding before
  by_cost h = lex_lt a.cost b.cost _ _ h

  pub by_gates : a.cost ≡ b.cost → a.gates < b.gates → before a b ≡ true
  unfolding before
  by_gates c h = lex_eq a.cost b.cost _ _ c ∙ lex_lt a.gates b.gates _ _ h

  pub by_depth : a.cost ≡ b.cost → a.gates ≡ b.gates → a.depth < b.depth → before a b ≡ true
  unfolding before
  by_depth c g h = lex_eq a.cost b.cost _ _ c ∙ lex_eq a.gates b.gates _ _ g ∙ lex_lt a.depth b.depth _ _ h

  pub by_layout : a.cost ≡ b.cost → a.gates ≡ b.gates → a.depth ≡ b.depth → a.layout < b.layout → before a b ≡ true
  unfolding before
  by_layout c g d h =
      lex_eq a.cost b.cost _ _ c ∙ lex_eq a.gates b.gates _ _ g ∙ lex_eq a.depth b.depth _ _ d ∙ lex_lt a.layout b.layout _ _ h

  pub by_bytes : a.cost ≡ b.cost → a.gates ≡ b.gates → a.depth ≡ b.depth → a.layout ≡ b.layout → before a b ≡ lex_less a.bytes b.bytes
  unfolding before
  by_bytes c g d p =
      lex_eq a.cost b.cost _ _ c ∙ lex_eq a.gates b.gates _ _ g ∙ lex_eq a.depth b.depth _ _ d ∙ lex_eq a.layout b.layout _ _ p
