-- A list's gates cost at least the least price each, and its heavy gates the difference more: so a budget bounds the length.
use mathlib.Core.Path.{◌≡◌, sym}
use mathlib.Core.Bool.{Bool, true, false}
use mathlib.Core.List.{List, [], ◌∷◌}
use Prim.Native.Nat.{ℕ, zero, suc, ◌+◌, ◌-◌, ◌*◌, ◌≤◌, ◌<◌, min}
use native.Mathlib.Nat.{mul-le-mul, mul-le-mul_right, le-div_iff_mul-le}
use native.Mathlib.Omega.{arith}
use borrow.Author.Tests.{ne_eqb}
use lib.ListN.{length, get_or, take}
use lib.Seq.{take_all}
use Rattle.std.specs.List.{All}
use Rattle.std.proofs.lemmas.List.Elements.{All-more, All-weaker, All-same}
use Rattle.problem.specs.declared.Entry.{Entry}
use Rattle.logic.specs.Rules.{pick, bit}
use Rattle.logic.specs.Lists.{total, Among}
use Rattle.logic.proofs.Counts.{bit_le}
use Rattle.logic.proofs.Members.{among_head, among_tail}
use Rattle.circuit.specs.Measure.{cost}
use Rattle.bounds.specs.budget.Heavy.{heavy, heavies}
use Rattle.bounds.specs.budget.Afford.{CostsAtLeast, buys}

-- twelve gates at any price fit a word
pub product_le : {needed extra : ℕ} → needed ≤ 12 → extra ≤ 255 → needed * extra ≤ 3060
product_le h k = mul-le-mul h k

-- the least of the first entries by some measure, and of one more
module _ (f : Entry → ℕ) (entries : List Entry) (i old next : ℕ) (d : Entry) where
  pub least_turn : i < length entries → next ≡ min old (f (get_or entries i d)) → All (λ (e : Entry). old ≤ f e) (take i entries)
      → All (λ (e : Entry). next ≤ f e) (take (i + 1) entries)
  least_turn h n before =
      All-more (λ (e : Entry). next ≤ f e) entries i d h
      (All-weaker (λ (e : Entry). old ≤ f e) (λ (e : Entry). next ≤ f e) (λ e k. omega arith) (take i entries) before) (omega arith)

-- a loop that has passed all entries
pub all_passed : (Q : Entry → Type 0) (entries : List Entry) (i : ℕ) → length entries ≤ i → All Q (take i entries) → All Q entries
all_passed Q entries i h passed = All-same Q entries (take i entries) (sym (take_all i entries h)) passed

-- a heavy gate that costs no less than `least`, and any gate that costs no less than `low`
pub extra_least : (t : Bool) (low least price : ℕ) → low ≤ price → least ≤ pick t price 255 → low + pick t (least - low) 0 ≤ price
extra_least true low least price h k = omega arith
extra_least false low least price h k = omega arith

-- heavy gates are gates
pub heavies_most : (e : List ℕ) → heavies e ≤ length e
unfolding heavies total
heavies_most [] = omega arith
heavies_most (b ∷ e) = omega (arith, bit_le (heavy b), heavies_most e)

-- n gates that fit the budget are among those that it buys
within_budget : (low extra needed spare remaining n : ℕ) → n * low + needed * extra ≤ spare → n ≤ remaining → n ≤ buys low extra needed spare remaining
unfolding buys
within_budget zero extra needed spare remaining n h l = l
within_budget (suc low) extra needed spare remaining n h l =
    let m : n * suc low ≤ spare - needed * extra = omega arith in
    rw (ne_eqb (suc low) 0 (λ e. omega arith)) (omega (arith, (le-div_iff_mul-le {k = suc low} (omega arith)).1 m))

module _ (low extra : ℕ) (gates : List ℕ) (price : ℕ → ℕ) (least : CostsAtLeast low extra gates price) where
  -- a gate, heavy or not, before a list that costs its least
  joined : (t : Bool) (n h p c : ℕ) → low + pick t extra 0 ≤ p → n * low + h * extra ≤ c → suc n * low + (bit t + h) * extra ≤ p + c
  joined true n h p c k l = omega arith
  joined false n h p c k l = omega arith

  cost_least : (e : List ℕ) → Among gates e → length e * low + heavies e * extra ≤ cost price e
  unfolding heavies total
  cost_least [] among = omega arith
  cost_least (b ∷ e) among =
      joined (heavy b) (length e) (heavies e) (price b) (cost price e) (least b (among_head among)) (cost_least e (among_tail among))

  module _ (e : List ℕ) (among : Among gates e) (needed spare : ℕ) (h : needed ≤ heavies e) (c : cost price e ≤ spare) where
    pub buys_most : (remaining : ℕ) → length e ≤ remaining → length e ≤ buys low extra needed spare remaining
    buys_most remaining l =
        within_budget low extra needed spare remaining (length e) (omega (arith, cost_least e among, mul-le-mul_right extra h)) l

    pub afford : needed * extra ≤ spare
    afford = omega (arith, cost_least e among, mul-le-mul_right extra h)
