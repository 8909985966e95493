-- The fewest misses, by one search after the other: the first number of misses at which a search finds something is the fewest. And a
-- search goes by what its test says of the lists that can be made of its gates, and by nothing else.
use mathlib.Core.Path.{◌≡◌, refl, sym, ap, ◌∙◌}
use mathlib.Core.Bool.{Bool, true, false, true≢false}
use mathlib.Core.Logic.{◌⊎◌, inl, inr, ⊎_elim}
use mathlib.Core.List.Memᴰ
use mathlib.Core.List.{List, [], ◌∷◌, Memᴰ}
use mathlib.Core.Option.{Option, none, some}
use Prim.Native.Nat.{ℕ, ◌≤◌, ◌<◌, min}
use native.Mathlib.Omega.{arith}
use borrow.Author.Tests.{leb-true, leb-false, le-leb}
use lib.Dec.{leb}
use Rattle.logic.specs.Rules.{pick}
use Rattle.logic.specs.Lists.{Among}
use Rattle.logic.proofs.Chain.{both_parts, both_true}
use Rattle.problem.specs.order.Choices.{Choice, attempt, improve}
use Rattle.problem.proofs.order.First.{found, nothing}
use Rattle.problem.specs.Problems.{Problem, choice_of, here, choices, within, good, first_good}
use Rattle.problem.proofs.Listed.{listed, within_parts, within_joined}
use Rattle.near_misses.specs.misses.Misses.{asking, tidily, approximates, missing_at_most, missing_any, fewest, missed_in, fewest_misses, closest_choice}

module _ (good : Choice → Bool) (count : Choice → ℕ) (m : ℕ) where
  pub fewest_most : (l : List Choice) → fewest good count m l ≤ m
  unfolding fewest
  fewest_most [] = omega arith
  fewest_most (a ∷ l) = by_good (good a) (fewest_most l)
    where
      by_good : (t : Bool) → fewest good count m l ≤ m → pick t (min (count a) (fewest good count m l)) (fewest good count m l) ≤ m
      by_good true k = omega arith
      by_good false k = k

  pub fewest_of_law : (l : List Choice) (a : Choice) → Memᴰ a l → good a ≡ true → fewest good count m l ≤ count a
  unfolding fewest
  fewest_of_law [] a n h = absurd (Memᴰ.not-nil n)
  fewest_of_law (b ∷ l) a n h =
      ⊎_elim
      (λ (e : a ≡ b). let g : good b ≡ true = ap good (sym e) ∙ h in rw (g, e) (omega arith))
      (λ (k : Memᴰ a l). by_good (good b) (fewest_of_law l a k h))
      (Memᴰ.cases_cons n)
    where
      by_good : (t : Bool) → fewest good count m l ≤ count a → pick t (min (count b) (fewest good count m l)) (fewest good count m l) ≤ count a
      by_good true k = omega arith
      by_good false k = k

  -- it is m, or some good choice has it
  abbrev Had : List Choice → ℕ → Type 0
  Had l k = (a : Choice) × (Memᴰ a l × ((good a ≡ true) × (count a ≡ k)))

  pub fewest_had : (l : List Choice) → (fewest good count m l ≡ m) ⊎ Had l (fewest good count m l)
  unfolding fewest
  fewest_had [] = inl refl
  fewest_had (a ∷ l) = by_good (good a) refl (fewest_had l)
    where
      later : (k : ℕ) → Had l k → Had (a ∷ l) k
      later k d = (d.0, (Memᴰ.tail d.1.0, d.1.1))

      lesser : good a ≡ true → (t : Bool) → leb (count a) (fewest good count m l) ≡ t → (fewest good count m l ≡ m) ⊎ Had l (fewest good count m l)
          → (min (count a) (fewest good count m l) ≡ m) ⊎ Had (a ∷ l) (min (count a) (fewest good count m l))
      lesser g true q d =
          let k = leb-true (count a) (fewest good count m l) q in
          inr (a, (Memᴰ.head refl, (g, omega arith)))
      lesser g false q d =
          let k = leb-false (count a) (fewest good count m l) q in
          let e : min (count a) (fewest good count m l) ≡ fewest good count m l = omega arith in
          rw e (⊎_elim (λ (s : fewest good count m l ≡ m). inl s) (λ (s : Had l (fewest good count m l)). inr (later (fewest good count m l) s)) d)

      by_good : (t : Bool) → good a ≡ t → (fewest good count m l ≡ m) ⊎ Had l (fewest good count m l)
          → (pick t (min (count a) (fewest good count m l)) (fewest good count m l) ≡ m) ⊎ Had (a ∷ l) (pick t (min (count a) (fewest good count m l)) (fewest good count m l))
      by_good true g d = lesser g (leb (count a) (fewest good count m l)) refl d
      by_good false g d = ⊎_elim (λ (s : fewest good count m l ≡ m). inl s) (λ (s : Had l (fewest good count m l)). inr (later (fewest good count m l) s)) d

-- a problem under which a choice may miss k wanted bits: a good choice of it is clean within all limits, and misses no more
module _ (n : ℕ) (rows : List ℕ) (P : Problem) where
  abbrev near : ℕ → Problem
  near k = missing_at_most n rows k P

  abbrev heedless : Problem
  heedless = missing_any n P

  pub near_good : (k : ℕ) (a : Choice) → good (near k) a ≡ true → (good heedless a ≡ true) × (missed_in rows a ≤ k)
  unfolding approximates
  near_good k a h =
      let w = within_parts (near k) P.most_cost a h in
      let b = both_parts (leb (missed_in rows a) k) (tidily n a.layout a.bytes) w.0 in
      (within_joined heedless P.most_cost a b.1 w.1.0 w.1.1, leb-true (missed_in rows a) k b.0)

  pub good_near : (k : ℕ) (a : Choice) → good heedless a ≡ true → missed_in rows a ≤ k → good (near k) a ≡ true
  unfolding approximates
  good_near k a h l =
      let w = within_parts heedless P.most_cost a h in
      within_joined (near k) P.most_cost a (both_true (le-leb (missed_in rows a) k l) w.0) w.1.0 w.1.1

  abbrev fewest_of : ℕ
  fewest_of = fewest (good heedless) (missed_in rows) 64 (choices P)

  -- no choice misses fewer
  pub none_fewer : (a : Choice) → Memᴰ a (choices P) → good heedless a ≡ true → fewest_misses n rows P ≤ missed_in rows a
  unfolding fewest_misses
  none_fewer a m h = fewest_of_law (good heedless) (missed_in rows) 64 (choices P) a m h

  pub at_most_all : fewest_misses n rows P ≤ 64
  unfolding fewest_misses
  at_most_all = fewest_most (good heedless) (missed_in rows) 64 (choices P)

  -- once a choice misses k or fewer, and searches that allow fewer found none, k is the fewest
  module _ (k : ℕ) (within_all : k ≤ 64) (failed : (j : ℕ) → j < k → first_good (near j) ≡ none) where
    not_fewer : k ≤ fewest_misses n rows P
    unfolding fewest_misses first_good here choice_of
    not_fewer = by_least (fewest_had (good heedless) (missed_in rows) 64 (choices P)) (leb k fewest_of) refl
      where
        by_least : (fewest_of ≡ 64) ⊎ Had (good heedless) (missed_in rows) 64 (choices P) fewest_of → (t : Bool) → leb k fewest_of ≡ t → k ≤ fewest_of
        by_least d true q = leb-true k fewest_of q
        by_least (inl e) false q = omega arith
        by_least (inr d) false q =
            let l = leb-false k fewest_of q in
            let e = d.1.1.1 in
            absurd (true≢false (sym (good_near fewest_of d.0 d.1.1.0 (omega arith)) ∙ (nothing (good (near fewest_of)) (choices P)).0 (failed fewest_of l) d.0 d.1.0))

    pub fewest_found : (c : Choice) → first_good (near k) ≡ some c → k ≡ fewest_misses n rows P
    unfolding first_good here choice_of
    fewest_found c e =
        let f = found (good (near k)) (choices P) c e in
        let g = near_good k c f.1.0 in
        omega (arith, not_fewer, none_fewer c f.0 g.0, g.1)

    pub fewest_last : k ≡ 64 → k ≡ fewest_misses n rows P
    fewest_last e = omega (arith, not_fewer, at_most_all)

  -- the first of those that miss fewest misses just so many
  pub closest_misses : (c : Choice) → closest_choice n rows P ≡ some c → missed_in rows c ≡ fewest_misses n rows P
  unfolding closest_choice first_good here choice_of
  closest_misses c e =
      let f = found (good (near (fewest_misses n rows P))) (choices P) c e in
      let g = near_good (fewest_misses n rows P) c f.1.0 in
      omega (arith, none_fewer c f.0 g.0, g.1)

  -- there is one, where some choice is clean within all limits and misses at most 64 wanted bits
  pub closest_some : (a : Choice) → Memᴰ a (choices P) → good heedless a ≡ true → missed_in rows a ≤ 64 → closest_choice n rows P ≡ none → ⊥
  unfolding closest_choice fewest_misses first_good here choice_of
  closest_some a m h l e = by_least (fewest_had (good heedless) (missed_in rows) 64 (choices P))
    where
      missed : (b : Choice) → Memᴰ b (choices P) → good heedless b ≡ true → missed_in rows b ≤ fewest_of → ⊥
      missed b i g k = true≢false (sym (good_near fewest_of b g k) ∙ (nothing (good (near fewest_of)) (choices P)).0 e b i)

      by_least : (fewest_of ≡ 64) ⊎ Had (good heedless) (missed_in rows) 64 (choices P) fewest_of → ⊥
      by_least (inl s) = missed a m h (omega arith)
      by_least (inr d) = let s = d.1.1.1 in missed d.0 d.1.0 d.1.1.0 (omega arith)

-- two tests that say the same of every list of the gates have the same first good choice
module _ (P : Problem) (f g : ℕ → List ℕ → Bool) (same : (p : ℕ) (l : List ℕ) → Among P.gates l → f p l ≡ g p l) where
  same_good : (a : Choice) → Memᴰ a (choices P) → good (asking f P) a ≡ good (asking g P) a
  unfolding within choice_of
  same_good a m =
      let i = listed P [] P.most_gates a m in
      let e : f a.layout a.bytes ≡ g a.layout a.bytes = rw (← i.same) (same i.layout i.more i.among) in
      rw e

  same_improved : (x : Option Choice) (l : List Choice) → ((a : Choice) → Memᴰ a l → good (asking f P) a ≡ good (asking g P) a)
      → improve (good (asking f P)) x l ≡ improve (good (asking g P)) x l
  unfolding improve attempt
  same_improved x [] h = refl
  same_improved x (a ∷ l) h = rw (h a (Memᴰ.head refl)) (same_improved (attempt (good (asking g P)) x a) l (λ b m. h b (Memᴰ.tail m)))

  pub same_first : first_good (asking f P) ≡ first_good (asking g P)
  unfolding first_good here choice_of
  same_first = same_improved none (choices P) same_good
