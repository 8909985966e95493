-- The odometer goes through the candidates: what is left at a place is its candidate and what is left at the next place.
use mathlib.Core.Path.{◌≡◌, refl, sym, ap, ap₂, ◌∙◌}
use mathlib.Core.Bool.{Bool, true, false, true≢false}
use mathlib.Core.List.{List, [], ◌∷◌, ◌++◌, map, flat_map, append_assoc}
use Prim.Native.Nat.{ℕ, zero, suc, ◌+◌, ◌-◌, ◌<◌, ◌≤◌}
use native.Mathlib.Numerals.{add-one}
use native.Mathlib.Omega.{arith}
use borrow.Author.Tests.{leb-true, leb-false, lt-ltb, le-ltb}
use lib.ListN.{length, get_or, drop, replicate, drop_of_length-le, length-replicate}
use lib.Seq.{drop-cons}
use Rattle.logic.specs.Rules.{both}
use Rattle.logic.specs.Lists.{all_of, numbers_from}
use Rattle.logic.proofs.Chain.{both_parts}
use Rattle.problem.specs.order.Choices.{Choice, lists}
use Rattle.problem.specs.Problems.{Problem, choice_of, here}
use Rattle.scheduler.specs.candidates.Candidates.{of_length, candidates}
use Rattle.scheduler.specs.candidates.Inner.{at_last, over, digit, bump}
use Rattle.scheduler.specs.candidates.Left.{chosen, lists_after, current, after, left}

-- as many digits as before, each by itself
pub length_bump : (n : ℕ) (ds : List ℕ) → length (bump n ds) ≡ length ds
unfolding bump
length_bump n [] = refl
length_bump n (d ∷ ds) = ap suc (length_bump n ds)

pub bump_at : (n : ℕ) (ds : List ℕ) (i : ℕ) → i < length ds → get_or (bump n ds) i 0 ≡ digit n (get_or ds i 0) (over n (drop (suc i) ds))
unfolding bump
bump_at n [] i h = absurd (omega arith)
bump_at n (d ∷ ds) zero h = refl
bump_at n (d ∷ ds) (suc i) h = bump_at n ds i (omega arith)

-- as many gates as digits, each by its digit
pub length_chosen : (gates ds : List ℕ) → length (chosen gates ds) ≡ length ds
unfolding chosen
length_chosen gates [] = refl
length_chosen gates (d ∷ ds) = ap suc (length_chosen gates ds)

pub chosen_at : (gates ds : List ℕ) (i : ℕ) → i < length ds → get_or (chosen gates ds) i 0 ≡ get_or gates (get_or ds i 0) 0
unfolding chosen
chosen_at gates [] i h = absurd (omega arith)
chosen_at gates (d ∷ ds) zero h = refl
chosen_at gates (d ∷ ds) (suc i) h = chosen_at gates ds i (omega arith)

-- all at the last gate: all go back to the first
bump_over : (n : ℕ) (ds : List ℕ) → over n ds ≡ true → bump n ds ≡ replicate (length ds) 0
unfolding bump over all_of
bump_over n [] h = refl
bump_over n (d ∷ ds) h =
    let p = both_parts (at_last n d) (all_of (at_last n) ds) h in
    let k = leb-true n (d + 1) p.0 in
    ap₂ (λ (x : ℕ) (l : List ℕ). x ∷ l) (rw (p.1, le-ltb (d + 1) n k)) (bump_over n ds p.1)

-- a digit that is not at the last gate, before digits that are
not_last : (t : Bool) → both t true ≡ false → t ≡ false
not_last true h = h
not_last false h = refl

module _ (gates : List ℕ) where
  abbrev heading : ℕ → ℕ → List (List ℕ)
  heading k g = map (λ (l : List ℕ). g ∷ l) (lists gates k)

  -- and there is no later list of their length
  none_after : (ds : List ℕ) → over (length gates) ds ≡ true → lists_after gates ds ≡ []
  unfolding lists_after over all_of flat_map
  none_after [] h = refl
  none_after (d ∷ ds) h =
      let p = both_parts (at_last (length gates) d) (all_of (at_last (length gates)) ds) h in
      let k : length gates ≤ suc d = let q = leb-true (length gates) (d + 1) p.0 in omega arith in
      rw (none_after ds p.1, drop_of_length-le gates k)

  -- the lists that go on after a first gate, and those that begin with a later one
  abbrev extended : ℕ → List (List ℕ) → ℕ → ℕ → List (List ℕ)
  extended g ls k d = map (λ (l : List ℕ). g ∷ l) ls ++ flat_map (heading k) (drop (suc d) gates)

  -- the lists of one length begin with that of the first gate alone
  all_first : (k : ℕ) → 0 < length gates → lists gates k ≡ chosen gates (replicate k 0) ∷ lists_after gates (replicate k 0)
  unfolding lists lists_after chosen flat_map
  all_first zero h = refl
  all_first (suc k) h =
      ap (flat_map (heading k)) (drop-cons gates 0 0 h)
      ∙ ap (λ (z : List (List ℕ)). extended (get_or gates 0 0) z k 0) (all_first k h)
      ∙ ap (λ (m : ℕ). extended (get_or gates 0 0) (chosen gates (replicate k 0) ∷ lists_after gates (replicate k 0)) m 0) (sym (length-replicate k 0))

  -- the digit goes on, and all after it go back
  carried : (d : ℕ) (ds : List ℕ) → over (length gates) ds ≡ true → both (at_last (length gates) d) true ≡ false
      → lists_after gates (d ∷ ds) ≡ chosen gates (bump (length gates) (d ∷ ds)) ∷ lists_after gates (bump (length gates) (d ∷ ds))
  unfolding lists_after chosen bump flat_map
  carried d ds e h =
      let few = leb-false (length gates) (d + 1) (not_last (at_last (length gates) d) h) in
      let b : bump (length gates) (d ∷ ds) ≡ suc d ∷ replicate (length ds) 0
      = ap₂ (λ (x : ℕ) (l : List ℕ). x ∷ l) (rw (e, lt-ltb (d + 1) (length gates) few) (add-one d)) (bump_over (length gates) ds e) in
      ap (λ (z : List (List ℕ)). extended (get_or gates d 0) z (length ds) d) (none_after ds e)
      ∙ ap (flat_map (heading (length ds))) (drop-cons gates (suc d) 0 (rw add-one at few))
      ∙ ap (λ (z : List (List ℕ)). extended (get_or gates (suc d) 0) z (length ds) (suc d)) (all_first (length ds) (omega arith))
      ∙ ap (λ (m : ℕ). extended (get_or gates (suc d) 0) (chosen gates (replicate (length ds) 0) ∷ lists_after gates (replicate (length ds) 0)) m (suc d))
      (sym (length-replicate (length ds) 0))
      ∙ ap (λ (l : List ℕ). chosen gates l ∷ lists_after gates l) (sym b)

  -- the digit stays
  kept : (d : ℕ) (ds : List ℕ) → over (length gates) ds ≡ false
      → lists_after gates ds ≡ chosen gates (bump (length gates) ds) ∷ lists_after gates (bump (length gates) ds)
      → lists_after gates (d ∷ ds) ≡ chosen gates (bump (length gates) (d ∷ ds)) ∷ lists_after gates (bump (length gates) (d ∷ ds))
  unfolding lists_after chosen bump flat_map
  kept d ds e rest =
      let l = bump (length gates) ds in
      let b : bump (length gates) (d ∷ ds) ≡ d ∷ l = ap (λ (x : ℕ). x ∷ l) (rw e) in
      ap (λ (z : List (List ℕ)). extended (get_or gates d 0) z (length ds) d) rest
      ∙ ap (λ (m : ℕ). extended (get_or gates d 0) (chosen gates l ∷ lists_after gates l) m d) (sym (length_bump (length gates) ds))
      ∙ ap (λ (l : List ℕ). chosen gates l ∷ lists_after gates l) (sym b)

  -- where some digit is not at the last gate, the next list is that of the next digits
  pub one_after : (ds : List ℕ) → over (length gates) ds ≡ false
      → lists_after gates ds ≡ chosen gates (bump (length gates) ds) ∷ lists_after gates (bump (length gates) ds)
  unfolding over all_of
  one_after [] h = absurd (true≢false h)
  one_after (d ∷ ds) h = by_rest (one_after ds) (over (length gates) ds) refl
    where
      by_rest : (over (length gates) ds ≡ false → lists_after gates ds ≡ chosen gates (bump (length gates) ds) ∷ lists_after gates (bump (length gates) ds))
          → (t : Bool) → over (length gates) ds ≡ t
          → lists_after gates (d ∷ ds) ≡ chosen gates (bump (length gates) (d ∷ ds)) ∷ lists_after gates (bump (length gates) (d ∷ ds))
      by_rest rest true e = carried d ds e (rw e at h)
      by_rest rest false e = kept d ds e (rest e)

module _ (P : Problem) where
  -- the candidates of longer lists than some of k gates
  abbrev longer : ℕ → List Choice
  longer k = flat_map (of_length P) (numbers_from (suc k) (P.most_gates - k))

  longer_one : (k : ℕ) → k < P.most_gates → flat_map (here P) (lists P.gates (k + 1)) ++ longer (k + 1) ≡ longer k
  unfolding of_length flat_map
  longer_one k h =
      let e : P.most_gates - k ≡ suc (P.most_gates - (k + 1)) = omega arith in
      rw (e, add-one)

  longer_none : (k : ℕ) → P.most_gates ≤ k → longer k ≡ []
  unfolding flat_map
  longer_none k h = let e : P.most_gates - k ≡ 0 = omega arith in rw e

  -- the list of some digits with each layout, then the lists after it, then longer ones: all that is left from its first layout on
  begun : (ds : List ℕ) → 0 < length P.layouts
      → flat_map (here P) (chosen P.gates ds ∷ lists_after P.gates ds) ++ longer (length ds) ≡ left P ds 0
  unfolding current after here flat_map
  begun ds h =
      append_assoc (here P (chosen P.gates ds)) (flat_map (here P) (lists_after P.gates ds)) (longer (length ds))
      ∙ ap (λ (l : List ℕ). map (choice_of P (chosen P.gates ds)) l ++ (flat_map (here P) (lists_after P.gates ds) ++ longer (length ds)))
      (drop-cons P.layouts 0 0 h)

  -- at the start everything is left
  pub all_left : 0 < length P.layouts → left P [] 0 ≡ candidates P
  unfolding candidates of_length lists chosen lists_after flat_map
  all_left h = let e : P.most_gates - 0 ≡ P.most_gates = omega arith in sym (begun [] h) ∙ rw e

  module _ (ds : List ℕ) (p : ℕ) where
    pub next_layout : p + 1 < length P.layouts → left P ds (p + 1) ≡ after P ds p
    unfolding current after
    next_layout h =
        let k : suc p < length P.layouts = omega arith in
        rw add-one (ap (λ (l : List ℕ). map (choice_of P (chosen P.gates ds)) l ++ (flat_map (here P) (lists_after P.gates ds) ++ longer (length ds)))
        (sym (drop-cons P.layouts (suc p) 0 k)))

    module _ (h : 0 < length P.layouts) (q : length P.layouts ≤ p + 1) where
      no_layout : after P ds p ≡ flat_map (here P) (lists_after P.gates ds) ++ longer (length ds)
      unfolding after
      no_layout = let k : length P.layouts ≤ suc p = omega arith in rw (drop_of_length-le P.layouts k)

      pub next_list : over (length P.gates) ds ≡ false → left P (bump (length P.gates) ds) 0 ≡ after P ds p
      next_list e =
          let b = bump (length P.gates) ds in
          sym (begun b h)
          ∙ ap (λ (k : ℕ). flat_map (here P) (chosen P.gates b ∷ lists_after P.gates b) ++ longer k) (length_bump (length P.gates) ds)
          ∙ ap (λ (z : List (List ℕ)). flat_map (here P) z ++ longer (length ds)) (sym (one_after P.gates ds e))
          ∙ sym no_layout

      no_list : over (length P.gates) ds ≡ true → after P ds p ≡ longer (length ds)
      unfolding flat_map
      no_list e = no_layout ∙ ap (λ (z : List (List ℕ)). flat_map (here P) z ++ longer (length ds)) (none_after P.gates ds e)

      pub next_length : 0 < length P.gates → over (length P.gates) ds ≡ true → length ds < P.most_gates
          → left P (replicate (length ds + 1) 0) 0 ≡ after P ds p
      next_length some e k =
          let b = replicate {A = ℕ} (length ds + 1) 0 in
          sym (begun b h)
          ∙ ap (λ (k : ℕ). flat_map (here P) (chosen P.gates b ∷ lists_after P.gates b) ++ longer k) (length-replicate (length ds + 1) 0)
          ∙ ap (λ (z : List (List ℕ)). flat_map (here P) z ++ longer (length ds + 1)) (sym (all_first P.gates (length ds + 1) some))
          ∙ longer_one (length ds) k
          ∙ sym (no_list e)

      pub at_end : over (length P.gates) ds ≡ true → P.most_gates ≤ length ds → [] ≡ after P ds p
      at_end e k = sym (no_list e ∙ longer_none (length ds) k)
