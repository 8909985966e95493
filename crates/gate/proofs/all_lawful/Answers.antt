use Rattle.std.proofs.Common.{rules, tests, ◌∙◌}
use Rattle.std.proofs.lemmas.Iterator.{YieldsList-from_slice}
use Rattle.std.proofs.lemmas.Iterator.Search.{all_from_yields_List}
use Rattle.gate.specs.Gates.{lawful}
use Rattle.logic.proofs.Chains.{list_all_is_all_of}
use Rattle.gate.proofs.all_lawful.Goals as goal

pub returns : goal.returns
returns c =
    all_from_yields_List (lawful c.args.k c.args.w) _ _ _ c.all.ensures.ran (YieldsList-from_slice c.args.list.now cc) (λ x b q k. search (rules, tests))
    ∙ list_all_is_all_of _ _
