-- What a search knows while it runs, for the contracts inside the solver: its incumbent, which choices can no longer change it, and what
-- earlier runs have ruled out. No public call's contract cites this.
use Rattle.std.specs.Prelude.{◌≡◌, true, ℕ, ◌≤◌, ◌<◌, length}
use mathlib.Core.List.{List, [], ◌++◌, Memᴰ}
use Rattle.std.proofs.Math.Option.{Option, none}
use Rattle.logic.specs.Lists.{Among}
use Rattle.problem.specs.order.Choices.{Choice, attempt, improve, under}
use Rattle.problem.specs.Problems.{Problem, choice_of, here, choices, within, good}

-- the incumbent after all choices below l, by at most k more gates, were tried
unfoldable pub looked_under : Problem → ℕ → List ℕ → ℕ → Option Choice → Option Choice
looked_under P limit l k held = improve (within P limit) held (under (here P) P.gates l k)

-- of the choices below l by at most `remaining` gates, none that adds more than r gates to l changes the incumbent
pub record Enough (P : Problem) (limit : ℕ) (l : List ℕ) (remaining r : ℕ) (held : Option Choice) : Type 0 where
  pub beyond : (e : List ℕ) (p : ℕ) → Among P.gates e → Memᴰ p P.layouts
      → length e ≤ remaining → r < length e → attempt (within P limit) held (choice_of P (l ++ e) p) ≡ held

-- no good choice that costs at most `limit` has fewer than g gates
pub record Past (P : Problem) (limit g : ℕ) : Type 0 where
  pub gates_least : (a : Choice) → Memᴰ a (choices P) → good P a ≡ true → a.cost ≤ limit → g ≤ a.gates

-- no good choice costs less than c
pub record Dearer (P : Problem) (c : ℕ) : Type 0 where
  pub cost_least : (a : Choice) → Memᴰ a (choices P) → good P a ≡ true → c ≤ a.cost

-- what deepening on gates gives: the incumbent of a search with at most g gates, where no good choice within the limit has fewer
pub record Shortest (P : Problem) (limit : ℕ) (held : Option Choice) (g : ℕ) : Type 0 where
  pub finds : held ≡ looked_under P limit [] g none
  pub few : g ≤ P.most_gates
  pub past : Past P limit g
