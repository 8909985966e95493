-- Which choices can no longer change the incumbent; and the incumbent of a search, as a function for any sees it.
use mathlib.Core.Path.{◌≡◌, refl, sym, ◌∙◌}
use mathlib.Core.Bool.{Bool, true, false}
use mathlib.Core.Logic.{⊎_elim}
use mathlib.Core.Option.{some}
use Prim.Native.Nat.{◌≤◌, ◌<◌}
use native.Mathlib.Nat.{eq-or-lt_of_le}
use Rattle.std.specs.Prelude.{Option, Some, None}
use Rattle.problem.specs.declared.order.Best.{Best}
use Rattle.problem.specs.order.Choices.{Choice, before, attempt}
use Rattle.problem.specs.order.View.{choice, view, viewed}
use Rattle.problem.proofs.order.Order.{lex_gt, lex_eq, by_cost, by_gates}
use Rattle.problem.proofs.order.First.{attempt_after}

module _ (a b : Choice) where
  -- not before one that costs less
  after_cost : b.cost < a.cost → before a b ≡ false
  unfolding before
  after_cost h = lex_gt a.cost b.cost _ _ h

  -- nor before one that costs no more and has fewer gates
  after_gates : b.cost ≤ a.cost → b.gates < a.gates → before a b ≡ false
  unfolding before
  after_gates h k =
      ⊎_elim
      (λ (e : b.cost ≡ a.cost). lex_eq a.cost b.cost _ _ (sym e) ∙ lex_gt a.gates b.gates _ _ k)
      (λ (g : b.cost < a.cost). lex_gt a.cost b.cost _ _ g)
      (eq-or-lt_of_le h)

  -- fewer gates at no higher cost come first
  pub by_fewer : a.cost ≤ b.cost → a.gates < b.gates → before a b ≡ true
  by_fewer h k = ⊎_elim (λ (e : a.cost ≡ b.cost). by_gates a b e k) (λ (l : a.cost < b.cost). by_cost a b l) (eq-or-lt_of_le h)

module _ (good : Choice → Bool) (c d : Choice) where
  -- what costs more than what is held leaves it
  pub dearer_left : d.cost < c.cost → attempt good (some d) c ≡ some d
  dearer_left h = attempt_after good c d (after_cost c d h)

  -- and so does what costs no less and has more gates
  pub longer_left : d.cost ≤ c.cost → d.gates < c.gates → attempt good (some d) c ≡ some d
  longer_left h k = attempt_after good c d (after_gates c d h k)

-- what a search holds is the same choice to a function that takes any incumbent
pub viewed_is : (o : Option Best) → viewed choice o ≡ view o
unfolding viewed view
viewed_is None = refl
viewed_is (Some b) = refl
