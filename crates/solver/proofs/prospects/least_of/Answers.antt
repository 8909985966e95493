use mathlib.Core.List.{[]}
use Rattle.logic.specs.Lists.{along}
use Rattle.logic.proofs.Members.{among_nil}
use Rattle.walk.proofs.node.Nodes.{needs_span}
use Rattle.solver.proofs.prospects.Costs.{costs_of}
use Rattle.solver.proofs.prospects.least_of.Goals as goal

pub returns-clause-bounded : goal.returns-clause-bounded
unfolding along
returns-clause-bounded c =
    let k = c.needed.ensures.upper_bound in λ P posed. record {
      costs = costs_of P c.args.task c.args.entries.now posed _ _ c.extra.ensures.each;
      needed = needs_span P c.args.task posed.asks [] c.start_columns.result among_nil c.start_columns.ensures c.needed.result c.needed.ensures.value;
    }
