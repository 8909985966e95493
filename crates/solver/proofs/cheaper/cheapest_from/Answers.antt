-- A search below the incumbent's cost: what it finds, or, where it finds nothing, the incumbent.
use mathlib.Core.Path.{◌≡◌, sym}
use native.Mathlib.Omega.{arith}
use Rattle.std.specs.Prelude.{ℕ, Option, Some, None, unwrap_or}
use Rattle.problem.specs.declared.order.Best.{Best}
use Rattle.problem.specs.order.View.{view}
use Rattle.problem.specs.Problems.{Problem, first_good}
use Rattle.problem.specs.Inner.{Dearer}
use Rattle.problem.proofs.Limits.{final}
use Rattle.solver.specs.deepening.Deepening.{Cheapened}
use Rattle.solver.proofs.cheaper.cheapest_from.Goals as goal

either_way : (P : Problem) (to : ℕ) (r : Option Best) (held : Best) → (Dearer P to → view (Some held) ≡ first_good P) → Cheapened P to r
    → view (Some (unwrap_or r held)) ≡ first_good P
either_way P to None held kept dear = kept dear
either_way P to (Some b) held kept found = found

pub returns : goal.returns
returns c = λ P given limited first dear.
    rw c.unwrap_or.ensures (either_way P c.args.held.cost c.costs_between.result c.args.held
    (λ k. final P P.most_cost c.args.held (omega arith) first c.args.held.cost k (omega arith))
    (c.costs_between.ensures P given limited first dear))
