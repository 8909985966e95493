-- How many gates a spare cost still buys, where some of them must be heavy. Each gate costs at least `low`, and a heavy one at least
-- `extra` more. This holds whichever gates are dearer, and prices may be 0.
use mathlib.Core.List.{List, Memᴰ}
use Rattle.std.specs.Prelude.{ℕ, ◌+◌, ◌-◌, ◌*◌, ◌/◌, ◌≤◌, min, eqb}
use Rattle.logic.specs.Rules.{pick}
use Rattle.bounds.specs.budget.Heavy.{heavy}

-- each of the gates costs at least `low`, and a heavy one at least `extra` more
abbrev pub CostsAtLeast : ℕ → ℕ → List ℕ → (ℕ → ℕ) → Type 0
CostsAtLeast low extra gates price = (g : ℕ) → Memᴰ g gates → low + pick (heavy g) extra 0 ≤ price g

-- the most gates that the spare cost buys if `needed` of them are heavy; never more than `remaining`
unfoldable pub buys : ℕ → ℕ → ℕ → ℕ → ℕ → ℕ
buys low extra needed spare remaining = pick (eqb low 0) remaining (min remaining ((spare - needed * extra) / low))
