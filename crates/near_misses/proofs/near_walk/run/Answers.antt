-- The recursion passes over needless gates; from nothing held that loses nothing, so what is found is the first of all lists.
use mathlib.Core.Path.{ap, ◌∙◌}
use mathlib.Core.List.{[]}
use mathlib.Core.Option.{Option, none}
use Prim.Native.Nat.{ℕ}
use native.Mathlib.Omega.{arith}
use lib.ListN.{take}
use Rattle.problem.specs.order.Choices.{Choice}
use Rattle.problem.specs.order.View.{view}
use Rattle.problem.specs.Problems.{first_good}
use Rattle.problem.specs.Inner.{looked_under}
use Rattle.problem.specs.pruned.Pruned.{tried_under}
use Rattle.walk.specs.node.States.{needless}
use Rattle.near_misses.specs.near_offer.Loose.{loosened}
use Rattle.near_misses.proofs.near_offer.Near.{nothing_lost}
use Rattle.near_misses.proofs.near_walk.run.Goals as goal

pub returns : goal.returns
unfolding looked_under first_good view
returns c =
    (λ P posed limited.
    let Q = loosened c.args.task c.args.k P in
    c.dfs.ensures P posed (c.root.ensures.at P (record { least = λ e p among m r. omega arith }))
    ∙ ap (λ (n : ℕ). tried_under needless Q c.args.task.cost_limit (take n c.root.result.path) c.args.task.gate_limit none) c.root.ensures.len_value.0
    ∙ nothing_lost P c.args.task posed.asks c.args.k c.args.task.cost_limit c.args.task.gate_limit
    ∙ ap (λ (n : ℕ). looked_under Q n [] c.args.task.gate_limit none) limited.cost_most
    ∙ ap (λ (n : ℕ). looked_under Q P.most_cost [] n none) limited.gates_most)
