-- A gate is pruned since it is needless, by its cost, by the bits that would stay missed, or by its depth: in each case the incumbent stays.
use mathlib.Core.Path.{sym, ap₂, ◌∙◌}
use mathlib.Core.List.{[], ◌∷◌, ◌++◌}
use Prim.Native.Nat.{◌+◌, ◌<◌}
use native.Mathlib.Omega.{arith}
use lib.ListN.{length-append}
use lib.Seq.{length-take-le}
use Rattle.problem.specs.order.View.{viewed}
use Rattle.problem.proofs.Skips.{cut_depth}
use Rattle.problem.proofs.pruned.Walk.{by_skip, by_bound}
use Rattle.near_misses.specs.misses.Columns.{missed_at_least}
use Rattle.walk.specs.node.States.{list_of, needless}
use Rattle.walk.proofs.node.Nodes.{cost_snoc, follow_list}
use Rattle.near_misses.specs.near_offer.Loose.{loosened}
use Rattle.near_misses.proofs.near_offer.Near.{far}
use Rattle.near_misses.proofs.near_offer.hopeful.Goals as goal

pub returns-then-needless-clause-best_value : goal.returns-then-needless-clause-best_value
returns-then-needless-clause-best_value g c =
    (λ P asks at is ht f.
    by_skip needless (loosened c.args.task c.args.k P) c.args.task.cost_limit (list_of c.args.s) c.args.rest c.args.entry.gate (viewed g.H.Incumbent.stands_for c.args.best)
    (sym (c.needless.ensures P c.args.task asks at is.listed ht) ∙ c.if-needless.true))

pub returns-then-dear-clause-best_value : goal.returns-then-dear-clause-best_value
returns-then-dear-clause-best_value g c =
    let l = list_of c.args.s in (λ P asks at is ht f.
    let long = length-append l (c.args.entry.gate ∷ []) in
    let take-is = length-take-le c.args.s.len c.args.s.path at.roomy in
    by_bound needless (loosened c.args.task c.args.k P) c.args.task.cost_limit l c.args.rest c.args.entry.gate (viewed g.H.Incumbent.stands_for c.args.best)
    (c.dear.ensures c.if-dear.true (loosened c.args.task c.args.k P) (l ++ (c.args.entry.gate ∷ [])) c.args.rest (ap₂ ◌+◌ at.paid is.priced ∙ sym (cost_snoc P l c.args.entry.gate)) (omega arith)))

pub returns-then-k-missed_at_least-clause-best_value : goal.returns-then-k-missed_at_least-clause-best_value
returns-then-k-missed_at_least-clause-best_value g c =
    let l = list_of c.args.s in (λ P asks at is ht f.
    let next = c.step-next.ensures c.args.task.controls c.args.task.wanted asks.fair.few (asks.kinds c.args.entry.gate is.listed) ht in
    let more : c.args.k < missed_at_least c.args.task.wanted c.step-next.result c.args.task.outputs c.args.task.free c.args.rest
    = let h = c.if-k-missed_at_least.true in let e = c.missed_at_least.ensures in omega arith in
    by_bound needless (loosened c.args.task c.args.k P) c.args.task.cost_limit l c.args.rest c.args.entry.gate (viewed g.H.Incumbent.stands_for c.args.best)
    (far P c.args.task asks c.args.k (l ++ (c.args.entry.gate ∷ [])) c.step-next.result (next ∙ (follow_list P c.args.s c.args.entry at is).1) c.args.rest more
    c.args.task.cost_limit (viewed g.H.Incumbent.stands_for c.args.best)))

pub returns-clause-best_value : goal.returns-clause-best_value
returns-clause-best_value g c =
    let l = list_of c.args.s in (λ P asks at is ht f.
    by_bound needless (loosened c.args.task c.args.k P) c.args.task.cost_limit l c.args.rest c.args.entry.gate (viewed g.H.Incumbent.stands_for c.args.best)
    (cut_depth (loosened c.args.task c.args.k P) c.args.task.cost_limit (l ++ (c.args.entry.gate ∷ [])) c.args.rest (viewed g.H.Incumbent.stands_for c.args.best) (c.in_time.ensures f P asks at is)))
