use Rattle.std.proofs.Common.{ap, rules, ◌∙◌}
use Rattle.std.proofs.lemmas.Iterator.{YieldsList-from_slice, YieldsList-from_map}
use Rattle.std.proofs.lemmas.Iterator.Consumers.{sum_by_from_yields_List}
use Rattle.logic.proofs.Chains.{sum_by_is_total}
use Rattle.circuit.specs.declared.Weights.{Weights}
use Rattle.circuit.specs.Measure.{weight_of, cost}
use Rattle.printed.proofs.rewriting.list_cost.Goals as goal

pub returns : goal.returns
returns c =
    let price = weight_of c.from-weights.result in
    sum_by_from_yields_List price c.args.list.now _ _ c.sum.ensures.ran (YieldsList-from_map _ price (YieldsList-from_slice c.args.list.now cc) c.map.ensures.closure (λ x r q k. search rules))
    ∙ sum_by_is_total price _ ∙ ap (λ (x : Weights). cost (weight_of x) c.args.list.now) c.from-weights.ensures
