use Rattle.std.proofs.Common.{rules, tests, ◌∙◌}
use Rattle.std.proofs.lemmas.Iterator.{YieldsList-from_slice, YieldsList-from_map}
use Rattle.std.proofs.lemmas.Iterator.Consumers.{sum_by_from_yields_List}
use Rattle.logic.proofs.Chains.{sum_by_is_total}
use Rattle.circuit.proofs.cost.Goals as goal

pub returns : goal.returns
returns g c =
    let price = g.R.Rate.rate c.args.prices in
    let gates = c.args.gates.now in
    sum_by_from_yields_List price gates c.map.result _ c.sum.ensures.ran
    (YieldsList-from_map _ price (YieldsList-from_slice gates (cc)) c.map.ensures.closure (λ x r q k. search (rules, tests)))
    ∙ sum_by_is_total price gates
