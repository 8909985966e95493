use Rattle.std.proofs.Common.{rules, tests, ◌∙◌}
use Rattle.std.proofs.lemmas.Iterator.{YieldsList-from_slice}
use Rattle.std.proofs.lemmas.Iterator.Consumers.{fold_from_yields_List}
use Rattle.logic.proofs.Chains.{fold_is_along}
use Rattle.gate.specs.Gates.{step}
use Rattle.circuit.proofs.run.forwards.Goals as goal

pub returns : goal.returns
returns c =
    fold_from_yields_List _ (λ v b. step b v) _ _ c.fold.ensures.ran (YieldsList-from_slice c.args.gates.now cc) (λ a x b q k. search (rules, tests))
    ∙ fold_is_along step _ _
