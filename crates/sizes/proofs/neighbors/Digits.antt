-- Lemmas for the loops of `member` and `neighbor`: the unused values from one value on, and one digit of a place.
use mathlib.Core.Path.{◌≡◌, refl, sym, ap, ◌∙◌, subst}
use mathlib.Core.Bool.{true, false}
use mathlib.Core.List.{List, ◌∷◌, map}
use Prim.Native.Nat.{ℕ, zero, suc, ◌+◌, ◌-◌, ◌*◌, ◌/◌, ◌%◌, ◌^◌, ◌≤◌, ◌<◌}
use native.Mathlib.Nat.{mul-div_cancel_left, mul-le-mul}
use native.Mathlib.Numerals.{add-one}
use native.Mathlib.Omega.{arith}
use lib.Bits.{bit_xor}
use lib.Count.{ones}
use lib.ListN.{length, get_or, length-map}
use Rattle.logic.specs.Rules.{pick}
use Rattle.logic.specs.Lists.{keep_only, numbers_from}
use Rattle.gate.specs.Gates.{step}
use Rattle.sizes.specs.permutations.Orders.{factorial}
use Rattle.sizes.specs.permutations.Inner.{in_mask, members, arranged, placed}
use Rattle.sizes.proofs.permutations.Orders.{factorial_pos}

-- the members from x on
abbrev pub members_from : ℕ → ℕ → List ℕ
members_from m x = keep_only (in_mask m) (numbers_from x (8 - x))

module _ (m x ahead : ℕ) where
  -- one value: the one sought, passed over, or used already
  unrolled : x < 8 → members_from m x ≡ pick (in_mask m x) (x ∷ members_from m (suc x)) (members_from m (suc x))
  unrolled h = let e : 8 - x ≡ suc (8 - suc x) = omega arith in ap (λ (n : ℕ). keep_only (in_mask m) (numbers_from x n)) e

  pub scan_here : x < 8 → in_mask m x ≡ true → ahead ≡ 0 → x ≡ get_or (members_from m x) ahead 0
  scan_here h t a = rw (a, unrolled h, t) refl

  pub scan_next : x < 8 → in_mask m x ≡ true → 0 < ahead → get_or (members_from m (x + 1)) (ahead - 1) 0 ≡ get_or (members_from m x) ahead 0
  scan_next h t a = rw (add-one x, unrolled h, t) (passed ahead a)
    where
      passed : (a : ℕ) → 0 < a → get_or (members_from m (suc x)) (a - 1) 0 ≡ get_or (x ∷ members_from m (suc x)) a 0
      passed zero a = absurd (omega arith)
      passed (suc a) h = let e : suc a - 1 ≡ a = omega arith in ap (λ (i : ℕ). get_or (members_from m (suc x)) i 0) e

  pub scan_over : x < 8 → in_mask m x ≡ false → get_or (members_from m (x + 1)) ahead 0 ≡ get_or (members_from m x) ahead 0
  scan_over h t = rw (add-one x, unrolled h, t) refl

  pub scan_end : 8 ≤ x → get_or (members_from m x) ahead 0 ≡ 0
  scan_end h = let e : 8 - x ≡ 0 = omega arith in ap (λ (n : ℕ). get_or (keep_only (in_mask m) (numbers_from x n)) ahead 0) e

-- an order of n values has n
arranged_long : (n m r : ℕ) → length (arranged n m r) ≡ n
unfolding arranged
arranged_long zero m r = refl
arranged_long (suc n) m r =
    ap suc (arranged_long n (bit_xor m (2 ^ get_or (members m) (r / factorial n) 0)) (r % factorial n))

-- the place that a gate leads to, by its first digit and the others
pub first_digit : (g n from to rest x y : ℕ) → x ≡ get_or (members from) (rest / factorial n) 0 → y ≡ step g x
    → placed to (map (step g) (arranged (suc n) from rest))
    ≡ ones (to % 2 ^ y) * factorial n + placed (bit_xor to (2 ^ y)) (map (step g) (arranged n (bit_xor from (2 ^ x)) (rest % factorial n)))
unfolding arranged placed
first_digit g n from to rest x y hx hy =
    rw (hy, hx)
    (ap (λ (k : ℕ). ones (to % 2 ^ step g (get_or (members from) (rest / factorial n) 0)) * factorial k
    + placed (bit_xor to (2 ^ step g (get_or (members from) (rest / factorial n) 0)))
    (map (step g) (arranged n (bit_xor from (2 ^ get_or (members from) (rest / factorial n) 0)) (rest % factorial n))))
    (length-map (arranged n (bit_xor from (2 ^ get_or (members from) (rest / factorial n) 0)) (rest % factorial n)) (step g)
    ∙ arranged_long n (bit_xor from (2 ^ get_or (members from) (rest / factorial n) 0)) (rest % factorial n)))

-- the number of orders of one value less
module _ (n orders : ℕ) (h : 0 < n) (e : orders ≡ factorial n) where
  pub one_less : orders / n ≡ factorial (n - 1)
  unfolding factorial
  one_less = by_count n h e
    where
      by_count : (n : ℕ) → 0 < n → orders ≡ factorial n → orders / n ≡ factorial (n - 1)
      by_count zero h e = absurd (omega arith)
      by_count (suc k) h e =
          let q : k ≡ suc k - 1 = omega arith in
          ap (λ (o : ℕ). o / suc k) e ∙ mul-div_cancel_left (factorial k) h ∙ ap factorial q

  pub one_less_pos : 0 < orders / n
  one_less_pos = subst (λ (o : ℕ). 0 < o) (sym one_less) (factorial_pos (n - 1))

-- a digit's share of the place is small
pub share_most : (l orders : ℕ) → l ≤ 8 → orders ≤ 40320 → l * orders ≤ 322560
share_most l orders h k = mul-le-mul {n₂ = 8} {m₂ = 40320} h k

-- one turn: the first digit goes to the place
pub digit_turn : (g n from to rest place x y l o from' to' total : ℕ) → 0 < n → o ≡ factorial (n - 1) → x ≡ get_or (members from) (rest / o) 0 → y ≡ step g x
    → l ≡ ones (to % 2 ^ y) → from' ≡ bit_xor from (2 ^ x) → to' ≡ bit_xor to (2 ^ y)
    → place + placed to (map (step g) (arranged n from rest)) ≡ total
    → place + l * o + placed to' (map (step g) (arranged (n - 1) from' (rest % o))) ≡ total
digit_turn g zero from to rest place x y l o from' to' total h ho hx hy hl hf ht owed = absurd (omega arith)
digit_turn g (suc k) from to rest place x y l o from' to' total h ho hx hy hl hf ht owed =
    let q : suc k - 1 ≡ k = omega arith in
    let e : o ≡ factorial k = ho ∙ ap factorial q in
    let d = first_digit g k from to rest x y (hx ∙ ap (λ (p : ℕ). get_or (members from) (rest / p) 0) e) hy in
    rw (q, e, hl, hf, ht) (omega (arith, d))

pub digits_done : (g n from to rest place total : ℕ) → n ≡ 0 → place + placed to (map (step g) (arranged n from rest)) ≡ total → place ≡ total
unfolding arranged placed
digits_done g zero from to rest place total h owed = omega arith
digits_done g (suc n) from to rest place total h owed = absurd (omega arith)
