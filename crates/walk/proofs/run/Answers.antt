-- The recursion passes over needless gates; from nothing held that loses nothing, so what is found is the first of all lists.
use mathlib.Core.Path.{sym, ap, ◌∙◌, subst}
use Prim.Native.Nat.{ℕ}
use lib.ListN.{take}
use Rattle.std.specs.Prelude.{None}
use Rattle.problem.specs.order.View.{view}
use Rattle.problem.specs.pruned.Pruned.{tried_under}
use Rattle.walk.specs.node.States.{needless, Exact}
use Rattle.walk.proofs.node.Forms.{nothing_lost}
use Rattle.walk.proofs.run.Goals as goal

pub returns : goal.returns
unfolding view
returns c =
    (λ P given exact.
    c.dfs.ensures P given (c.root.ensures.at P given.bounded.needed)
    (subst (λ (n : ℕ). Exact P c.args.setup.task.cost_limit (take n c.root.result.path) c.args.most c.args.sums.now) (sym c.root.ensures.len_value.0) exact)
    ∙ ap (λ (n : ℕ). tried_under needless P c.args.setup.task.cost_limit (take n c.root.result.path) c.args.most (view None)) c.root.ensures.len_value.0
    ∙ nothing_lost P c.args.setup.task given.posed.asks c.args.setup.task.cost_limit c.args.most)
