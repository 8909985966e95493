-- The candidates of a job stand in strictly rising order of length, gate bytes and layout (document 02), so that each occurs once.
use mathlib.Core.Path.{◌≡◌, refl, sym, ap, ap₂, ◌∙◌}
use mathlib.Core.Bool.{Bool, true, false, false≢true}
use mathlib.Core.Logic.{⊎_elim}
use mathlib.Core.List.Memᴰ
use mathlib.Core.List.{List, [], ◌∷◌, ◌++◌, map, Memᴰ}
use Prim.Native.Nat.{ℕ, zero, suc, ◌<◌}
use native.Mathlib.Omega.{arith}
use lib.Dec.{eqb}
use lib.ListN.{length, get_or}
use Rattle.logic.specs.Rules.{pick}
use Rattle.logic.specs.Lists.{keep_only, numbers_from}
use Rattle.gate.specs.Gates.{lawful, gates_for}
use Rattle.table.specs.layouts.Layouts.{layout_ok, plain, layouts_for}
use Rattle.record.specs.job_fields.Jobs.{most_controls, data_wires, wires, free_layout}
use Rattle.problem.specs.order.Choices.{Choice, lex_less, lists}
use Rattle.problem.proofs.order.Order.{lex_lt, lex_eq, lex_true}
use Rattle.problem.proofs.order.Enumeration.{flat_map_is, lists_is}
use Rattle.problem.specs.Problems.{Problem, choice_of, here}
use Rattle.outcomes.specs.Outcomes.{problem_over, problem_of}
use Rattle.scheduler.specs.candidates.Candidates.{of_length, candidates, tried_before}
use Rattle.scheduler.proofs.candidates.Ordered.{Ordered, ordered_at, ordered_one, ordered_map, ordered_flat_map, Less, ordered_numbers, ordered_filtered}

abbrev Earlier : List ℕ → List ℕ → Type 0
Earlier l m = lex_less l m ≡ true

-- equal fronts do not matter, and of fronts of one length that differ the rest does not matter
front_same : (l a b : List ℕ) → lex_less (l ++ a) (l ++ b) ≡ lex_less a b
front_same [] a b = refl
front_same (x ∷ l) a b = lex_eq x x (l ++ a) (l ++ b) refl ∙ front_same l a b

front_earlier : (l m a b : List ℕ) → length l ≡ length m → Earlier l m → Earlier (l ++ a) (m ++ b)
unfolding lex_less
front_earlier [] [] a b n h = absurd (false≢true h)
front_earlier [] (y ∷ m) a b n h = absurd (omega arith)
front_earlier (x ∷ l) [] a b n h = absurd (omega arith)
front_earlier (x ∷ l) (y ∷ m) a b n h =
    ⊎_elim
    (λ (p : x < y). lex_lt x y (l ++ a) (m ++ b) p)
    (λ (p : (x ≡ y) × (lex_less l m ≡ true)). lex_eq x y (l ++ a) (m ++ b) p.0 ∙ front_earlier l m a b (omega arith) p.1)
    (lex_true x y l m h)

-- the lists of one length
lists_ordered : (gates : List ℕ) → Ordered Less gates → (k : ℕ) → Ordered Earlier (lists gates k)
unfolding lists
lists_ordered gates up zero = ordered_one Earlier []
lists_ordered gates up (suc k) =
    ordered_flat_map Less Earlier (λ (g : ℕ). map (λ (l : List ℕ). g ∷ l) (lists gates k)) gates up
    (λ g. ordered_map Earlier Earlier (λ (l : List ℕ). g ∷ l) (lists gates k) (lists_ordered gates up k) (λ l m e. lex_eq g g l m refl ∙ e))
    (λ g h i j less x y p q.
    let a = Memᴰ.of_map (λ (l : List ℕ). g ∷ l) (lists gates k) p in
    let b = Memᴰ.of_map (λ (l : List ℕ). h ∷ l) (lists gates k) q in
    sym (ap₂ lex_less a.2 b.2) ∙ lex_lt g h a.0 b.0 less)

abbrev Tried : Choice → Choice → Type 0
Tried a b = tried_before a b ≡ true

-- the order key by key: each key decides where those before it are equal
module _ (P : Problem) (l m : List ℕ) (p q : ℕ) where
  pub by_length : length l < length m → tried_before (choice_of P l p) (choice_of P m q) ≡ true
  unfolding tried_before choice_of
  by_length h = lex_lt (length l) (length m) (l ++ (p ∷ [])) (m ++ (q ∷ [])) h

  pub by_bytes : length l ≡ length m → lex_less l m ≡ true → tried_before (choice_of P l p) (choice_of P m q) ≡ true
  unfolding tried_before choice_of
  by_bytes n h = lex_eq (length l) (length m) (l ++ (p ∷ [])) (m ++ (q ∷ [])) n ∙ front_earlier l m (p ∷ []) (q ∷ []) n h

  pub by_layout : p < q → tried_before (choice_of P l p) (choice_of P l q) ≡ true
  unfolding tried_before choice_of
  by_layout h = lex_eq (length l) (length l) (l ++ (p ∷ [])) (l ++ (q ∷ [])) refl ∙ front_same l (p ∷ []) (q ∷ []) ∙ lex_lt p q [] [] h

-- none is tried before itself
not_itself : (c : Choice) → tried_before c c ≡ false
unfolding tried_before lex_less
not_itself c = front_same (c.gates ∷ c.bytes) (c.layout ∷ []) (c.layout ∷ []) ∙ lex_eq c.layout c.layout [] [] refl

module _ (P : Problem) where
  -- a candidate of one list
  here_is : (l : List ℕ) (a : Choice) → Memᴰ a (here P l) → (p : ℕ) × (choice_of P l p ≡ a)
  unfolding here
  here_is l a i = let r = Memᴰ.of_map (choice_of P l) P.layouts i in (r.0, r.2)

  module _ (gates-up : Ordered Less P.gates) (layouts-up : Ordered Less P.layouts) where
    here_ordered : (l : List ℕ) → Ordered Tried (here P l)
    unfolding here
    here_ordered l = ordered_map Less Tried (choice_of P l) P.layouts layouts-up (λ p q h. by_layout P l l p q h)

    length_ordered : (k : ℕ) → Ordered Tried (of_length P k)
    unfolding of_length
    length_ordered k =
        ordered_flat_map Earlier Tried (here P) (lists P.gates k) (lists_ordered P.gates gates-up k) here_ordered
        (λ l m i j e a b s t.
        let u = here_is l a s in
        let v = here_is m b t in
        sym (ap₂ tried_before u.1 v.1)
        ∙ by_bytes P l m u.0 v.0 ((lists_is P.gates k l i).1 ∙ sym (lists_is P.gates k m j).1) e)

    all_ordered : Ordered Tried (candidates P)
    unfolding candidates of_length
    all_ordered =
        ordered_flat_map Less Tried (of_length P) (numbers_from 0 (suc P.most_gates)) (ordered_numbers (suc P.most_gates) 0) length_ordered
        (λ j k i i₁ less a b s t.
        let l = flat_map_is (here P) a (lists P.gates j) s in
        let m = flat_map_is (here P) b (lists P.gates k) t in
        let u = here_is l.0 a l.1.1 in
        let v = here_is m.0 b m.1.1 in
        sym (ap₂ tried_before u.1 v.1)
        ∙ by_length P l.0 m.0 u.0 v.0
        (omega (arith, less, (lists_is P.gates j l.0 l.1.0).1, (lists_is P.gates k m.0 m.1.0).1)))

gates_ordered : (k w : ℕ) → Ordered Less (gates_for k w)
unfolding gates_for
gates_ordered k w = ordered_filtered (lawful k w) 256 0

layouts_ordered : (n free : ℕ) → Ordered Less (layouts_for n free)
unfolding layouts_for
layouts_ordered n free = by_free (eqb free 1)
  where
    by_free : (t : Bool) → Ordered Less (pick t (keep_only (layout_ok n) (numbers_from 0 256)) (plain n ∷ []))
    by_free true = ordered_filtered (layout_ok n) 256 0
    by_free false = ordered_one Less (plain n)

job_ordered : (job : List ℕ) → Ordered Tried (candidates (problem_of job))
unfolding problem_over
job_ordered job =
    all_ordered (problem_of job) (gates_ordered (most_controls job) (wires job)) (layouts_ordered (data_wires job) (free_layout job))

-- "in order of length, gate bytes, placing": of two candidates of a job the one at the lesser place is tried before the other
module _ (job : List ℕ) (d : Choice) (r s : ℕ) (h : r < s) (k : s < length (candidates (problem_of job))) where
  pub candidates_rise : tried_before (get_or (candidates (problem_of job)) r d) (get_or (candidates (problem_of job)) s d) ≡ true
  candidates_rise = ordered_at Tried (candidates (problem_of job)) d r s (job_ordered job) h k

  -- so they are not the same
  pub each_once : get_or (candidates (problem_of job)) r d ≡ get_or (candidates (problem_of job)) s d → ⊥
  each_once e =
      let x = get_or (candidates (problem_of job)) r d in
      false≢true (sym (not_itself x) ∙ ap (tried_before x) e ∙ candidates_rise)
