-- The library's order of tuples and of byte lists is the order of specs/order; and what an offer keeps.
use Rattle.std.proofs.Common.{◌≡◌, ℕ, Bool, true, false, ltb, eqb, List, [], ◌∷◌, take, Option, Some, None, refl, ap, ◌∙◌, arith}
use Rattle.std.specs.declared.cmp.Ordering.{Ordering}
use Rattle.std.specs.declared.cmp.Ordering.TheVariants.{Less, Equal, Greater}
use Rattle.std.specs.Ordering.{nat_cmp, is_lt, is_some_and, partial_ordering_then}
use Rattle.std.specs.Cmp.Lexicographic.{slice_partial_cmp}
use borrow.Author.Tests.{ltb-true, ltb-false, eqb-true, eqb-false}
use Rattle.problem.specs.order.Choices.{lex_less, before, keep}
use Rattle.problem.specs.declared.order.Best.{Best}
use Rattle.logic.specs.Rules.{pick}
use Rattle.problem.specs.order.View.{choice, view}

abbrev less : Option Ordering → Bool
less = is_some_and is_lt

-- x is less than y, or they are equal and `rest` decides
abbrev ordered : ℕ → ℕ → Bool → Bool
ordered x y rest = pick (ltb x y) true (pick (ltb y x) false rest)

abbrev compared : ℕ → ℕ → Option Ordering
compared x y = Some (nat_cmp x y)

-- one number of each decides, or the rest does
one_key : (x y : ℕ) (rest : Option Ordering) → less (partial_ordering_then (compared x y) rest) ≡ ordered x y (less rest)
one_key x y rest = by_order (ltb x y) (ltb y x) (eqb x y) refl refl refl
  where
    by_order : (a b e : Bool) → ltb x y ≡ a → ltb y x ≡ b → eqb x y ≡ e → less (partial_ordering_then (compared x y) rest) ≡ ordered x y (less rest)
    by_order true b e p q r = rw p refl
    by_order false true true p q r = absurd (omega (arith, eqb-true x y r, ltb-true y x q))
    by_order false true false p q r = rw (p, q, r) refl
    by_order false false true p q r = rw (p, q, r) refl
    by_order false false false p q r = absurd (omega (arith, eqb-false x y r, ltb-false x y p, ltb-false y x q))

then_then : (p q r : Option Ordering) → partial_ordering_then (partial_ordering_then p q) r ≡ partial_ordering_then p (partial_ordering_then q r)
then_then None q r = refl
then_then (Some Less) q r = refl
then_then (Some Equal) q r = refl
then_then (Some Greater) q r = refl

in_turn : (a b c d e : Option Ordering)
    → partial_ordering_then (partial_ordering_then (partial_ordering_then (partial_ordering_then a b) c) d) e
    ≡ partial_ordering_then a (partial_ordering_then b (partial_ordering_then c (partial_ordering_then d e)))
in_turn a b c d e =
    then_then (partial_ordering_then (partial_ordering_then a b) c) d e ∙ then_then (partial_ordering_then a b) c (partial_ordering_then d e)
    ∙ then_then a b (partial_ordering_then c (partial_ordering_then d e))

bytewise : (xs ys : List ℕ) → less (slice_partial_cmp compared xs ys) ≡ lex_less xs ys
unfolding lex_less
bytewise [] [] = refl
bytewise [] (y ∷ ys) = refl
bytewise (x ∷ xs) [] = refl
bytewise (x ∷ xs) (y ∷ ys) = one_key x y (slice_partial_cmp compared xs ys) ∙ ap (ordered x y) (bytewise xs ys)

-- the five keys of two circuits, compared as tuples
pub keyed : (a b : Best) (p q : List ℕ) → p ≡ take a.len a.path → q ≡ take b.len b.path
    → less (partial_ordering_then (partial_ordering_then (partial_ordering_then (partial_ordering_then (compared a.cost b.cost) (compared a.len b.len))
    (compared a.depth b.depth)) (compared a.layout b.layout)) (slice_partial_cmp compared p q)) ≡ before (choice a) (choice b)
unfolding before choice lex_less
keyed a b p q hp hq =
    ap less (in_turn cost gates depth layout bytes)
    ∙ one_key a.cost b.cost (partial_ordering_then gates (partial_ordering_then depth (partial_ordering_then layout bytes)))
    ∙ ap (ordered a.cost b.cost) (one_key a.len b.len (partial_ordering_then depth (partial_ordering_then layout bytes))
    ∙ ap (ordered a.len b.len) (one_key a.depth b.depth (partial_ordering_then layout bytes)
    ∙ ap (ordered a.depth b.depth) (one_key a.layout b.layout bytes
    ∙ ap (ordered a.layout b.layout) (bytewise p q ∙ rw (hp, hq) refl))))
  where
    cost : Option Ordering
    cost = compared a.cost b.cost

    gates : Option Ordering
    gates = compared a.len b.len

    depth : Option Ordering
    depth = compared a.depth b.depth

    layout : Option Ordering
    layout = compared a.layout b.layout

    bytes : Option Ordering
    bytes = slice_partial_cmp compared p q

-- what an offer keeps
pub offered_before : (held mine : Best) → before (choice mine) (choice held) ≡ true → view (Some mine) ≡ keep (view (Some held)) (choice mine)
unfolding view keep
offered_before held mine f = rw f refl

pub offered_after : (held mine : Best) → before (choice mine) (choice held) ≡ false → view (Some held) ≡ keep (view (Some held)) (choice mine)
unfolding view keep
offered_after held mine f = rw f refl
