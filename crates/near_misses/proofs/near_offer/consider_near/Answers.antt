use mathlib.Core.Path.{sym}
use Prim.Native.Nat.{◌<◌}
use native.Mathlib.Omega.{arith}
use Rattle.problem.specs.order.View.{view}
use Rattle.near_misses.specs.misses.Columns.{missed_at_least}
use Rattle.walk.specs.node.States.{list_of}
use Rattle.near_misses.proofs.near_offer.Near.{alone_far}
use Rattle.near_misses.proofs.near_offer.consider_near.Goals as goal

pub returns-then-k-missed_at_least : goal.returns-then-k-missed_at_least
returns-then-k-missed_at_least c =
    let more : c.args.k < missed_at_least c.args.task.wanted c.args.s.columns c.args.task.outputs c.args.task.free 0
    = let h = c.if-k-missed_at_least.true in let e = c.missed_at_least.ensures in omega arith in (λ P asks at. sym (alone_far P c.args.task asks c.args.k (list_of c.args.s) c.args.s.columns at.columned more c.args.task.cost_limit (view c.args.best)))
