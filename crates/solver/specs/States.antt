-- What one stage of the search, with its filter, leaves to the next.
use Rattle.std.specs.Prelude.{◌≡◌, ℕ, ◌+◌, Option, Some, MatchOption}
use Rattle.problem.specs.declared.order.Best.{Best}
use Rattle.problem.specs.Problems.{Problem, first_good}
use Rattle.problem.specs.order.View.{view}
use Rattle.problem.specs.Inner.{Past}

-- what a search up to `most` gates comes to: everything good has more gates, or the first good choice
abbrev pub Settled : Problem → ℕ → Option Best → Type 0
Settled P most r = MatchOption r (Past P P.most_cost (most + 1)) (λ b. view (Some b) ≡ first_good P)
