-- "dictionary order": of two permutations the one at the lesser place has the lesser value where they first differ.
use mathlib.Core.Path.{◌≡◌, refl, sym, ap, ap₂, ◌∙◌, subst}
use mathlib.Core.Bool.{Bool, true, false}
use mathlib.Core.Logic.{⊎_elim}
use mathlib.Core.List.{List, [], ◌∷◌}
use Prim.Native.Nat.{ℕ, zero, suc, ◌*◌, ◌/◌, ◌%◌, ◌≤◌, ◌<◌}
use native.Mathlib.Nat.{not-suc-le-zero, le_of_suc-le-suc, le-div_iff_mul-le, eq-or-lt_of_le}
use native.Mathlib.Omega.{arith}
use borrow.Author.Tests.{ltb-true}
use lib.Dec.{ltb}
use lib.ListN.{length, get_or}
use Rattle.logic.specs.Rules.{both, pick}
use Rattle.logic.specs.Lists.{all_of, keep_only}
use Rattle.logic.proofs.Chain.{both_left, both_right, both_true}
use Rattle.logic.proofs.Members.{member_at, all_member, all_members, keep_is}
use Rattle.parity.specs.Parity.{differs, distinct}
use Rattle.problem.specs.order.Choices.{lex_less}
use Rattle.problem.proofs.order.Order.{lex_lt, lex_eq}
use Rattle.sizes.specs.permutations.Orders.{without, orders, eight, permutations, factorial}
use Rattle.sizes.specs.permutations.Inner.{permutation_at}
use Rattle.sizes.proofs.permutations.Orders.{factorial_pos, digits, left, orders_split, eight_distinct, all_eight}

-- each value is below all that follow
unfoldable rising : List ℕ → Bool
rising [] = true
rising (x ∷ xs) = both (all_of (ltb x) xs) (rising xs)

keep_rising : (f : ℕ → Bool) (l : List ℕ) → rising l ≡ true → rising (keep_only f l) ≡ true
unfolding rising
keep_rising f [] h = refl
keep_rising f (y ∷ l) h = by_first (f y) (keep_rising f l (both_right (all_of (ltb y) l) (rising l) h))
  where
    by_first : (t : Bool) → rising (keep_only f l) ≡ true → rising (pick t (y ∷ keep_only f l) (keep_only f l)) ≡ true
    by_first true k =
        both_true (all_members (ltb y) (keep_only f l) (λ a m. all_member (ltb y) a l (both_left (all_of (ltb y) l) (rising l) h) (keep_is f l a m).1)) k
    by_first false k = k

rising_at : (l : List ℕ) (i j : ℕ) → rising l ≡ true → i < j → j < length l → get_or l i 0 < get_or l j 0
unfolding rising
rising_at [] i j h k n = absurd (not-suc-le-zero n)
rising_at (x ∷ l) i zero h k n = absurd (not-suc-le-zero k)
rising_at (x ∷ l) zero (suc j) h k n =
    ltb-true x (get_or l j 0) (all_member (ltb x) (get_or l j 0) l (both_left (all_of (ltb x) l) (rising l) h) (member_at l j (le_of_suc-le-suc n)))
rising_at (x ∷ l) (suc i) (suc j) h k n = rising_at l i j (both_right (all_of (ltb x) l) (rising l) h) (le_of_suc-le-suc k) (le_of_suc-le-suc n)

before : (n : ℕ) (vs : List ℕ) (r s : ℕ) → rising vs ≡ true → distinct vs ≡ true → length vs ≡ n → r < s → s < factorial n
    → lex_less (get_or (orders n vs) r []) (get_or (orders n vs) s []) ≡ true
unfolding factorial
before zero vs r s up d h k l = absurd (omega arith)
before (suc n) vs r s up d h k l =
    let F = factorial n in
    let p = digits n r (omega arith) in
    let q = digits n s l in
    let o : ℕ → ℕ → List ℕ = λ (i j : ℕ). get_or (orders n (without (get_or vs i 0) vs)) j [] in
    let i = r / F in
    let j = s / F in
    let m : i ≤ j = (le-div_iff_mul-le (factorial_pos n)).1 (let e = p.1.1 in omega arith) in
    ap₂ lex_less (orders_split n vs r d h (omega arith)) (orders_split n vs s d h l)
    ∙ ⊎_elim
    (λ (e : i ≡ j).
    let g = left n (get_or vs i 0) vs d h (member_at vs i (omega (arith, p.0))) in
    let t : r % F < s % F = (let a = p.1.1 in let b = q.1.1 in let c : i * F ≡ j * F = ap (λ (x : ℕ). x * F) e in omega arith) in
    ap (λ (x : ℕ). lex_less (get_or vs i 0 ∷ o i (r % F)) (get_or vs x 0 ∷ o x (s % F))) (sym e)
    ∙ lex_eq (get_or vs i 0) (get_or vs i 0) (o i (r % F)) (o i (s % F)) refl
    ∙ (before n (without (get_or vs i 0) vs) (r % F) (s % F) (keep_rising (differs (get_or vs i 0)) vs up) g.0 g.1 t q.1.0))
    (λ (e : i < j). lex_lt (get_or vs i 0) (get_or vs j 0) (o i (r % F)) (o j (s % F)) (rising_at vs i j up e (omega (arith, q.0))))
    (eq-or-lt_of_le m)

pub dictionary : (r s : ℕ) → r < s → s < 40320 → lex_less (permutation_at r) (permutation_at s) ≡ true
unfolding permutations rising all_of
dictionary r s h k = before 8 eight r s refl eight_distinct refl h (subst (λ (n : ℕ). s < n) (sym all_eight) k)
