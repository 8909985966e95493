use mathlib.Core.Path.{sym, ◌∙◌, subst}
use Rattle.std.proofs.Math.Option.{some}
use Prim.Native.Nat.{◌≤◌}
use native.Mathlib.Omega.{arith}
use Rattle.problem.specs.Problems.{Problem}
use Rattle.problem.specs.Inner.{Past, Dearer, Shortest}
use Rattle.problem.proofs.Limits.{final, found_cost, held_cost}
use Rattle.walk.specs.declared.node.Task.{Task}
use Rattle.walk.specs.node.States.{Given, Limited, Ready, Supplied}
use Rattle.solver.specs.deepening.Deepening.{Priced, limited_to}
use Rattle.solver.proofs.deepening.Searches.{fair_limited, counted_at, priced_below}
use Rattle.solver.proofs.deepening.cheaper.Goals as goal
use Rattle.solver.proofs.deepening.cheaper.Goals.{After-at_cost}

-- what the search at one cost comes to
priced : (g : _) (c : After-at_cost g) (P : Problem) → Given P c.args.setup c.args.entries.now → Limited P c.args.setup.task
    → Shortest P P.most_cost (some (g.H.Incumbent.stands_for c.args.held)) (g.H.Incumbent.stands_for c.args.held).gates
    → Dearer P c.args.costs.from → Priced P c.loop-c.c c.at_cost.result
priced g c P given limited first dear =
    let few = c.requires.ready.1 in
    let below = c.loop-c-test.true in
    let top = c.requires.costs_rise.1 in
    let counted = counted_at P c.args.setup.task _ given.posed c.args.sums.now c.loop-c.c (omega (arith, limited.gates_most)) (rw limited.gates_most at c.requires.marked) (c.loop-c.invariant P given.posed given.bounded limited first dear) in
    priced_below P c.args.setup.task _ given.posed c.args.setup.least given.bounded limited (g.H.Incumbent.stands_for c.args.held) first
    c.loop-c.c (omega arith) c.args.sums.now counted
    _ c.limited_to.ensures c.at_cost.result (λ posed bounded hl hg past counted.
    c.at_cost.ensures P record { posed = posed; bounded = bounded } hl hg
    (subst (Past P c.limited_to.result.cost_limit) (sym c.len.ensures) past) counted)

pub at_cost-requires : goal.at_cost-requires
unfolding limited_to
at_cost-requires g c =
    let moved = subst (λ (t : Task). Supplied c.args.entries.now t c.args.bits.now c.args.setup.reach × (Ready t c.args.setup.least × (t.gate_limit ≤ 12))) (sym c.limited_to.ensures) (record { known = c.requires.supplied.known; sieve = c.requires.supplied.sieve }, (record { fair = fair_limited c.args.setup.task _ c.requires.ready.0.fair; modest = c.requires.ready.0.modest; few = c.requires.ready.0.few }, c.requires.ready.1)) in
    record { supplied = moved.0; ready = moved.1 }

pub returns-in-Some : goal.returns-in-Some
returns-in-Some g c =
    let b = c.loop-c-test.true in
    let top = c.requires.costs_rise.1 in λ P given limited first dear.
    let most = held_cost P P.most_cost (g.H.Incumbent.stands_for c.args.held) (omega arith) first in
    let here = subst (Priced P c.loop-c.c) c.in-Some.is (priced g (goal.at.returns-in-Some g c).After-at_cost P given limited first dear) in
    final P c.loop-c.c c.in-Some.b (omega arith) here c.loop-c.c (c.loop-c.invariant P given.posed given.bounded limited first dear)
    (found_cost P c.loop-c.c c.in-Some.b (omega arith) here)

pub loop-c-preserved : goal.loop-c-preserved
loop-c-preserved g c =
    let b = c.loop-c-test.true in λ P posed bounded limited first dear.
    subst (Priced P c.loop-c.c) c.in_default.is
    (priced g (goal.at.loop-c-preserved g c).After-at_cost P record { posed = posed; bounded = bounded } limited first dear)
