use mathlib.Core.Path.{◌≡◌, sym, ap, ◌∙◌}
use native.Mathlib.Omega.{arith}
use Rattle.problem.specs.order.View.{view}
use Rattle.problem.proofs.Limits.{past_next, shortest}
use Rattle.solver.proofs.deepening.Searches.{exact_at, deepened}
use Rattle.solver.proofs.deepening.fewest.Goals as goal

pub returns-in-Some : goal.returns-in-Some
returns-in-Some c =
    let b = c.loop-g-test.true in λ P given hl hg past counted.
    let p = c.loop-g.invariant P given hl hg past counted in
    let e = c.run.ensures P given (exact_at P c.args.setup.task.cost_limit c.loop-g.g c.args.sums.now hl (omega arith) p counted) in
    shortest P c.args.setup.task.cost_limit c.loop-g.g c.in-Some.b hl (omega arith) (sym (ap view c.in-Some.is) ∙ e) p

pub loop-g-preserved : goal.loop-g-preserved
unfolding view
loop-g-preserved c =
    let b = c.loop-g-test.true in λ P given hl hg past counted.
    let x = exact_at P c.args.setup.task.cost_limit c.loop-g.g c.args.sums.now hl (omega arith) (c.loop-g.invariant P given hl hg past counted) counted in
    past_next P c.args.setup.task.cost_limit c.loop-g.g hl (omega arith) (sym (c.run.ensures P given x) ∙ ap view c.in_default.is)

pub returns : goal.returns
returns c =
    let b = c.loop-g-test.false in
    let g : c.loop-g.g ≡ c.args.counts.most = let x = c.loop-g.auto.g-end (c.requires.ready.1.0) in omega arith in λ P given hl hg past counted.
    let p = rw g at (c.loop-g.invariant P given hl hg past counted) in
    deepened P c.args.setup.task.cost_limit c.args.counts.most hl hg c.run-2.result
    (c.run-2.ensures P given (exact_at P c.args.setup.task.cost_limit c.args.counts.most c.args.sums.now hl (omega arith) p counted)) p
