-- A gate is pruned since it is needless, by its cost, by the filter, by what could not be mended in time, or by its depth: in each case the
-- incumbent stays.
use mathlib.Core.Path.{◌≡◌, sym, ap, ap₂, ◌∙◌, subst}
use mathlib.Core.Bool.{false}
use mathlib.Core.List.{[], ◌∷◌, ◌++◌, List}
use Prim.Native.Nat.{ℕ, ◌+◌, ◌-◌}
use native.Mathlib.Omega.{arith}
use lib.ListN.{length-append}
use lib.Seq.{length-take-le}
use Rattle.problem.specs.order.View.{viewed}
use Rattle.problem.proofs.Skips.{cut_depth}
use Rattle.problem.proofs.pruned.Walk.{by_skip, by_bound}
use Rattle.outputs.specs.Owed.{stuck}
use Rattle.bloom.specs.hash.Reach.{shares_of, held}
use Rattle.walk.specs.node.States.{list_of, needless}
use Rattle.walk.proofs.node.Nodes.{cost_snoc}
use Rattle.walk.proofs.node.Pruning.{unseen, stuck_after}
use Rattle.walk.proofs.tests.promising.Goals as goal

pub returns-then-needless-clause-passed : goal.returns-then-needless-clause-passed
returns-then-needless-clause-passed g c =
    (λ P remaining asks at is ht hr enough sieve f.
    by_skip needless P c.args.task.cost_limit (list_of c.args.s) (remaining - 1) c.args.entry.gate (viewed g.H.Incumbent.stands_for c.args.best)
    (sym (c.needless.ensures P c.args.task asks at is.listed ht) ∙ c.if-needless.true))

pub returns-then-dear-clause-passed : goal.returns-then-dear-clause-passed
returns-then-dear-clause-passed g c =
    (λ P remaining asks at is ht hr enough sieve f.
    let l = list_of c.args.s in
    let long = length-append l (c.args.entry.gate ∷ []) in
    let take-is = length-take-le c.args.s.len c.args.s.path at.roomy in
    by_bound needless P c.args.task.cost_limit l (remaining - 1) c.args.entry.gate (viewed g.H.Incumbent.stands_for c.args.best)
    (c.dear.ensures c.if-dear.true P (l ++ (c.args.entry.gate ∷ [])) (remaining - 1) (ap₂ ◌+◌ at.paid is.priced ∙ sym (cost_snoc P l c.args.entry.gate)) (omega arith)))

pub returns-then-not-near_enough-clause-passed : goal.returns-then-not-near_enough-clause-passed
returns-then-not-near_enough-clause-passed g c =
    (λ P remaining asks at is ht hr enough sieve f.
    let next = c.step-next.ensures c.args.task.controls c.args.task.wanted asks.fair.few (asks.kinds c.args.entry.gate is.listed) ht in
    let out = c.near_enough.ensures c.if-not-near_enough.true in
    unseen P c.args.task c.args.s asks at c.args.task.cost_limit c.args.entry.gate remaining c.args.most (viewed g.H.Incumbent.stands_for c.args.best) is.listed hr c.requires.fair.1.1 enough c.args.bits.now c.args.reach sieve
    out.0 (subst (λ (ds : List ℕ). held c.args.bits.now c.args.reach.size (shares_of c.args.reach ds) 5 5 ≡ false) next out.1))

pub returns-then-stuck-clause-passed : goal.returns-then-stuck-clause-passed
returns-then-stuck-clause-passed g c =
    (λ P remaining asks at is ht hr enough sieve f.
    let next = c.step-next.ensures c.args.task.controls c.args.task.wanted asks.fair.few (asks.kinds c.args.entry.gate is.listed) ht in
    stuck_after P c.args.task c.args.s asks at c.args.task.cost_limit c.args.entry.gate remaining c.args.most (viewed g.H.Incumbent.stands_for c.args.best) is.listed hr c.requires.fair.1.1 enough
    (ap (λ (cs : List ℕ). stuck c.args.task.controls c.args.task.wanted cs c.args.task.outputs c.args.task.free (c.args.most - 1)) (sym next) ∙ sym c.stuck.ensures ∙ c.if-stuck.true))

pub returns-clause-passed : goal.returns-clause-passed
returns-clause-passed g c =
    (λ P remaining asks at is ht hr enough sieve f.
    by_bound needless P c.args.task.cost_limit (list_of c.args.s) (remaining - 1) c.args.entry.gate (viewed g.H.Incumbent.stands_for c.args.best)
    (cut_depth P c.args.task.cost_limit (list_of c.args.s ++ (c.args.entry.gate ∷ [])) (remaining - 1) (viewed g.H.Incumbent.stands_for c.args.best) (c.in_time.ensures f P asks at is)))
