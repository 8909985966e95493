-- The gates that the cost buys end the counts to try; where they end below the first count, nothing good costs so little.
use native.Mathlib.Omega.{arith}
use Rattle.problem.proofs.Limits.{dearer}
use Rattle.solver.proofs.deepening.Searches.{bought, carried}
use Rattle.solver.proofs.deepening.at_cost.Goals as goal

pub returns-then-most-from : goal.returns-then-most-from
returns-then-most-from c =
    let e = c.buys-most.ensures.value in
    let k = c.if-most-from.true in (λ P given hl hg past counted.
    dearer P c.args.setup.task.cost_limit λ x m h q. omega (arith, rw (← hg) at (bought P c.args.setup.least given.bounded c.args.setup.task.cost_limit x m h q), past.gates_least x m h q))

-- where the walks find nothing, everything good costs more
pub returns : goal.returns
returns c =
    let e = c.buys-most.ensures.value in
    let k = c.buys-most.ensures.upper_bound in λ P given hl hg past counted.
    carried c.fewest.result
    (λ fewer. dearer P c.args.setup.task.cost_limit λ x m h q.
    omega (arith, rw (← hg) at (bought P c.args.setup.least given.bounded c.args.setup.task.cost_limit x m h q), fewer.gates_least x m h q))
    (λ b first. first)
    (c.fewest.ensures P given hl (omega arith) past counted)
