-- A range is gone through from 0 on, and `all_below` from the last number down.
use Rattle.std.proofs.Common.{◌≡◌, ℕ, zero, suc, Bool, true, false, ◌&&◌, List, map, refl, sym, ap, ◌∙◌, zero-add, add-one, rules, tests}
use Rattle.std.specs.List.{range_with_len, list_all}
use Rattle.std.proofs.lemmas.Iterator.{YieldsList-from_range}
use Rattle.std.proofs.lemmas.Iterator.Search.{all_from_yields_List}
use Rattle.std.proofs.lemmas.List.Folds.{list_all-append, list_all-map}
use Rattle.std.proofs.lemmas.List.FromFn.{map-range_with_len_more}
use Rattle.logic.specs.Rules.{both, all_below}
use Rattle.tally.specs.counts.Counts.{agrees_at, agrees}
use Rattle.tally.proofs.counts.agrees.Goals as goal

module _ (p : ℕ → Bool) where
  abbrev first : ℕ → List ℕ
  first n = map (λ (k : ℕ). k) (range_with_len 0 n)

  all_first : (n : ℕ) → list_all p (first n) ≡ all_below n p
  all_first zero = refl
  all_first (suc n) =
      ap (λ k. list_all p (first k)) (sym (add-one n)) ∙ ap (list_all p) (map-range_with_len_more (λ k. k) 0 n n (zero-add n))
      ∙ list_all-append p _ _ ∙ last (p n) (list_all p (first n)) ∙ ap (both (p n)) (all_first n)
    where
      last : (a b : Bool) → (b && (a && true)) ≡ both a b
      last true true = refl
      last true false = refl
      last false true = refl
      last false false = refl

  all_in_range : (n : ℕ) → list_all p (range_with_len 0 n) ≡ all_below n p
  all_in_range n = sym (list_all-map p (λ k. k) (range_with_len 0 n)) ∙ all_first n

pub returns : goal.returns
unfolding agrees
returns c =
    all_from_yields_List (agrees_at c.args.cells.now) _ _ _ c.all.ensures.ran (YieldsList-from_range 0 9 9 refl refl) (λ x b q k. search (rules, tests))
    ∙ all_in_range (agrees_at c.args.cells.now) 9
