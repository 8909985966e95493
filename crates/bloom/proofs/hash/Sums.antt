-- Sums below a bound: leaving a term out, and changing the order of the terms. What is left of a state's shares without two of them.
use mathlib.Core.Path.{◌≡◌, refl, sym, ap, ap₂, ◌∙◌, subst}
use mathlib.Core.Bool.{Bool, true, false}
use mathlib.Core.Logic.{⊎_elim}
use mathlib.Core.List.{List}
use Prim.Native.Nat.{ℕ, zero, suc, ◌+◌, ◌-◌, ◌≤◌, ◌<◌}
use native.Mathlib.Decide.{ℕ_discrete, dec_lt}
use native.Mathlib.Nat.{not-suc-le-zero, le_of_suc-le-suc, eq-or-lt_of_le, zero-add}
use native.Mathlib.Omega.{arith}
use borrow.Author.Tests.{eq-eqb, ne_eqb}
use lib.Dec.{eqb}
use lib.ListN.{get_or}
use Rattle.logic.specs.Rules.{pick}
use Rattle.bloom.specs.hash.Reach.{sum_below, without, part_of}

pub sum_same : (n : ℕ) (f g : ℕ → ℕ) → ((w : ℕ) → w < n → f w ≡ g w) → sum_below n f ≡ sum_below n g
sum_same zero f g h = refl
sum_same (suc n) f g h = ap₂ ◌+◌ (h n (omega arith)) (sum_same n f g (λ w l. h w (omega arith)))

without_other : (a : ℕ) (f : ℕ → ℕ) (w : ℕ) → (w ≡ a → ⊥) → without a f w ≡ f w
without_other a f w n = rw (ne_eqb w a n)

without_same : (a : ℕ) (f : ℕ → ℕ) (w : ℕ) → w ≡ a → without a f w ≡ 0
without_same a f w e = rw (eq-eqb w a e)

pub sum_past : (n a : ℕ) (f : ℕ → ℕ) → n ≤ a → sum_below n (without a f) ≡ sum_below n f
sum_past n a f h = sum_same n (without a f) f (λ w l. without_other a f w (λ e. omega arith))

pub sum_less : (n a : ℕ) (f : ℕ → ℕ) → a < n → f a + sum_below n (without a f) ≡ sum_below n f
sum_less zero a f h = absurd (not-suc-le-zero h)
sum_less (suc n) a f h =
    ⊎_elim
    (λ (e : a ≡ n). let z = without_same a f n (sym e) in let s = sum_past n a f (omega arith) in let q : f a ≡ f n = ap f e in omega arith)
    (λ (l : a < n). let z = without_other a f n (λ e. omega arith) in let s = sum_less n a f l in omega arith)
    (eq-or-lt_of_le (le_of_suc-le-suc h))

sum_zero : (n : ℕ) (f : ℕ → ℕ) → ((w : ℕ) → w < n → f w ≡ 0) → sum_below n f ≡ 0
sum_zero zero f h = refl
sum_zero (suc n) f h = let z = h n (omega arith) in let s = sum_zero n f (λ w l. h w (omega arith)) in omega arith

-- a sum over the places of an order is the sum over the places
module _ (π : ℕ → ℕ) (f : ℕ → ℕ) where
  strip : ℕ → ℕ → ℕ
  strip zero = f
  strip (suc m) = without (π m) (strip m)

  strip_out : (m v : ℕ) → ((w : ℕ) → w < m → v ≡ π w → ⊥) → strip m v ≡ f v
  unfolding strip
  strip_out zero v h = refl
  strip_out (suc m) v h = without_other (π m) (strip m) v (h m (omega arith)) ∙ strip_out m v (λ w l. h w (omega arith))

  strip_in : (m w v : ℕ) → w < m → v ≡ π w → strip m v ≡ 0
  unfolding strip
  strip_in zero w v l e = absurd (not-suc-le-zero l)
  strip_in (suc m) w v l e =
      ⊎_elim
      (λ (k : w ≡ m). without_same (π m) (strip m) v (e ∙ ap π k))
      (λ (k : w < m). by_place (strip_in m w v k e) (ℕ_discrete v (π m)))
      (eq-or-lt_of_le (le_of_suc-le-suc l))
    where
      by_place : strip m v ≡ 0 → Dec (v ≡ π m) → without (π m) (strip m) v ≡ 0
      by_place z (yes k) = without_same (π m) (strip m) v k
      by_place z (no k) = without_other (π m) (strip m) v k ∙ z

  module _ (n : ℕ) (inside : (w : ℕ) → w < n → π w < n) (once : (v w : ℕ) → v < n → w < n → π v ≡ π w → v ≡ w) where
    sum_strip : (m : ℕ) → m ≤ n → sum_below m (λ w. f (π w)) + sum_below n (strip m) ≡ sum_below n f
    unfolding strip
    sum_strip zero h = zero-add (sum_below n f)
    sum_strip (suc m) h =
        let a = sum_strip m (omega arith) in
        let b = sum_less n (π m) (strip m) (inside m (omega arith)) in
        let c : strip m (π m) ≡ f (π m) = strip_out m (π m) (λ w l e. omega (arith, once m w (omega arith) (omega arith) e)) in
        omega arith

    pub sum_order : ((v : ℕ) → v < n → (w : ℕ) × ((w < n) × (π w ≡ v))) → sum_below n (λ w. f (π w)) ≡ sum_below n f
    sum_order onto =
        let a = sum_strip n (omega arith) in
        let z = sum_zero n (strip n) (λ v l. let o = onto v l in strip_in n o.0 v o.1.0 (sym o.1.1)) in
        omega arith

-- the shares of a state without two of them, by what is left of their sum
module _ (ss : List ℕ) where
  abbrev at : ℕ → ℕ
  at w = get_or ss w 0

  pub part_none : (a b : ℕ) → 5 ≤ a → 5 ≤ b → part_of ss a b ≡ part_of ss 5 5
  unfolding part_of
  part_none a b ha hb =
      sum_past 5 a (without b at) ha ∙ sum_past 5 b at hb ∙ sym (sum_past 5 5 (without 5 at) (omega arith) ∙ sum_past 5 5 at (omega arith))

  pub part_whole : part_of ss 5 5 ≡ sum_below 5 at
  unfolding part_of
  part_whole = sum_past 5 5 (without 5 at) (omega arith) ∙ sum_past 5 5 at (omega arith)

  pub part_same : (a : ℕ) → part_of ss a a ≡ part_of ss a 5
  unfolding part_of
  part_same a = sum_same 5 (without a (without a at)) (without a (without 5 at)) (λ w l. by_wire w l (ℕ_discrete w a))
    where
      by_wire : (w : ℕ) → w < 5 → Dec (w ≡ a) → without a (without a at) w ≡ without a (without 5 at) w
      by_wire w l (yes e) = rw (eq-eqb w a e)
      by_wire w l (no n) = rw (ne_eqb w a n, ne_eqb w 5 (λ e. omega arith))

  pub part_swap : (a b : ℕ) → part_of ss a b ≡ part_of ss b a
  unfolding part_of
  part_swap a b = sum_same 5 (without a (without b at)) (without b (without a at)) (λ w l. two (eqb w a) (eqb w b) (at w))
    where
      two : (s t : Bool) (x : ℕ) → pick s 0 (pick t 0 x) ≡ pick t 0 (pick s 0 x)
      two true true x = refl
      two true false x = refl
      two false true x = refl
      two false false x = refl

  pub part_one : (a b : ℕ) → a < 5 → 5 ≤ b → at a + part_of ss a b ≡ part_of ss 5 5
  unfolding part_of
  part_one a b ha hb =
      let l = sum_less 5 a (without b at) ha in
      let n = without_other b at a (λ e. omega arith) in
      let p = sum_past 5 b at hb in
      let q = part_whole in
      omega arith

  pub part_two : (a b : ℕ) → a < 5 → b < 5 → (a ≡ b → ⊥) → at a + at b + part_of ss a b ≡ part_of ss 5 5
  unfolding part_of
  part_two a b ha hb d =
      let l = sum_less 5 a (without b at) ha in
      let n = without_other b at a d in
      let p = sum_less 5 b at hb in
      let q = part_whole in
      omega arith

  -- no two shares are more than all
  pub part_two_le : (a b : ℕ) → a < 5 → b < a → at a + at b ≤ part_of ss 5 5
  part_two_le a b ha hb = omega (arith, part_two a b ha (omega arith) (λ e. omega arith))

  -- a number that is no wire leaves none out
  pub part_past : (a b : ℕ) → 5 ≤ a → part_of ss a b ≡ part_of ss 5 b
  unfolding part_of
  part_past a b ha = sum_past 5 a (without b at) ha ∙ sym (sum_past 5 5 (without b at) (omega arith))

  -- what holds of the whole hash, without each wire, and without each two whose shares are not 0, holds without any two; and so where wire
  -- t is never left out
  module _ (t : ℕ) (Q : ℕ → Type 0) (whole : Q (part_of ss 5 5)) (one : (w : ℕ) → w < 5 → (w ≡ t → ⊥) → Q (part_of ss 5 5 - at w))
      (two : (a : ℕ) → a < 5 → (b : ℕ) → b < pick (eqb a t) 0 (pick (eqb (at a) 0) 0 a) → (b ≡ t → ⊥) → Q (part_of ss 5 5 - at a - at b)) where
    lower : (a b : ℕ) → a < 5 → b < a → (a ≡ t → ⊥) → (b ≡ t → ⊥) → Q (part_of ss a b)
    lower a b ha hb na nb = by_share (part_two a b ha (omega arith) (λ e. omega arith)) (ℕ_discrete (at a) 0)
      where
        by_share : at a + at b + part_of ss a b ≡ part_of ss 5 5 → Dec (at a ≡ 0) → Q (part_of ss a b)
        by_share s (yes z) = subst Q (omega arith) (one b (omega arith) nb)
        by_share s (no n) = subst Q (omega arith) (two a ha b (rw (ne_eqb a t na, ne_eqb (at a) 0 n) hb) nb)

    alone : (a b : ℕ) → a < 5 → 5 ≤ b → (a ≡ t → ⊥) → Q (part_of ss a b)
    alone a b ha hb na = subst Q (omega (arith, part_one a b ha hb)) (one a ha na)

    pub every_part : (a b : ℕ) → (a ≡ t → ⊥) → (b ≡ t → ⊥) → Q (part_of ss a b)
    every_part a b na nb = by_first (dec_lt a 5) (dec_lt b 5)
      where
        by_order : a < 5 → b < 5 → Dec (a ≡ b) → Dec (b < a) → Q (part_of ss a b)
        by_order ha hb (yes e) d = subst Q (sym (ap (λ (w : ℕ). part_of ss a w) (sym e) ∙ part_same a)) (alone a 5 ha (omega arith) na)
        by_order ha hb (no n) (yes l) = lower a b ha l na nb
        by_order ha hb (no n) (no l) = subst Q (part_swap b a) (lower b a hb (omega arith) nb na)

        by_first : Dec (a < 5) → Dec (b < 5) → Q (part_of ss a b)
        by_first (yes ha) (yes hb) = by_order ha hb (ℕ_discrete a b) (dec_lt b a)
        by_first (yes ha) (no hb) = alone a b ha (omega arith) na
        by_first (no ha) (yes hb) = subst Q (part_swap b a) (alone b a hb (omega arith) nb)
        by_first (no ha) (no hb) = subst Q (sym (part_none a b (omega arith) (omega arith))) whole
