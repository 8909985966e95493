-- Counting the cells that pass a test adds up 1 for each.
use Rattle.std.proofs.Common.{◌≡◌, ℕ, ◌+◌, Bool, true, false, cond, List, leb, refl, sym, ◌∙◌, zero-add, rules, tests, count_by}
use Rattle.std.proofs.lemmas.Iterator.{YieldsList-from_slice}
use Rattle.std.proofs.lemmas.Iterator.Consumers.{count_from_yields_List, YieldsList-from_filter}
use Rattle.std.proofs.lemmas.List.Sums.{length-filter}
use Rattle.std.proofs.lemmas.List.Recursion.{is_count_by}
use Rattle.logic.specs.Rules.{both, bit}
use Rattle.logic.specs.Lists.{total}
use Rattle.tally.specs.counts.Counts.{between, how_many}
use Rattle.tally.proofs.counts.count.Goals as goal

abbrev lies : ℕ → ℕ → ℕ → Bool
lies least most cell = both (leb least cell) (leb cell most)

counted_is_total : (least most : ℕ) (cells : List ℕ) → how_many least most cells ≡ count_by (lies least most) cells
unfolding between total
counted_is_total least most = is_count_by (how_many least most) (lies least most) refl (λ x xs. one (lies least most x) (how_many least most xs))
  where
    one : (b : Bool) (n : ℕ) → bit b + n ≡ cond b (1 + n) n
    one true n = refl
    one false n = zero-add n

pub returns : goal.returns
returns c =
    count_from_yields_List _ _ c.count.ensures.ran
    (YieldsList-from_filter _ (lies c.args.least c.args.most) (YieldsList-from_slice c.args.cells.now cc) c.filter.ensures.closure (λ x b q k. search (rules, tests)))
    ∙ length-filter (lies c.args.least c.args.most) c.args.cells.now
    ∙ sym (counted_is_total c.args.least c.args.most c.args.cells.now)
