-- What one walk of the iterative deepening leaves to the next: on counts of gates, and on costs.
use Rattle.std.specs.Prelude.{◌≡◌, List, ℕ, ◌+◌, ◌*◌, ◌≤◌, ◌<◌, length, get_or, Option, Some, MatchOption}
use Rattle.logic.specs.Lists.{Among}
use Rattle.circuit.specs.Measure.{cost}
use Rattle.problem.specs.Problems.{Problem, first_good}
use Rattle.problem.specs.declared.order.Best.{Best}
use Rattle.problem.specs.order.View.{view}
use Rattle.problem.specs.Inner.{Past, Dearer, Shortest}
use Rattle.walk.specs.declared.node.Task.{Task}

-- where sums are given: they mark the cost and count of every list that the problem allows, and nothing good costs less than the limit
pub record Counted (P : Problem) (limit : ℕ) (sums : List ℕ) : Type 0 where
  pub marked : (e : List ℕ) → Among P.gates e → length e ≤ P.most_gates → 13 * cost P.price e + length e < length sums
      → 0 < get_or sums (13 * cost P.price e + length e) 0
  pub dear : 0 < length sums → Dearer P limit

-- what deepening on gates, up to `most` of them, comes to: everything good within the limit has more, or the first of the shortest lists
abbrev pub Deepened : Problem → ℕ → ℕ → Option Best → Type 0
Deepened P limit most r = MatchOption r (Past P limit (most + 1)) (λ b. Shortest P limit (view (Some b)) b.len)

-- what a search at one cost, the limit, comes to: everything good costs more, or the first of the shortest lists
abbrev pub Priced : Problem → ℕ → Option Best → Type 0
Priced P limit r = MatchOption r (Dearer P (limit + 1)) (λ b. Shortest P limit (view (Some b)) b.len)

-- what deepening on cost, below `to`, comes to: nothing good costs less than `to`, or the first good choice
abbrev pub Cheapened : Problem → ℕ → Option Best → Type 0
Cheapened P to r = MatchOption r (Dearer P to) (λ b. view (Some b) ≡ first_good P)

-- the task with another limit on cost
unfoldable pub limited_to : Task → ℕ → Task
limited_to task c = record {
  wanted = task.wanted;
  outputs = task.outputs;
  free = task.free;
  controls = task.controls;
  gate_limit = task.gate_limit;
  cost_limit = c;
  depth_limit = task.depth_limit;
}
