use Rattle.std.proofs.Common.{rules, tests, ◌∙◌}
use Rattle.std.proofs.lemmas.Iterator.{YieldsList-from_slice}
use Rattle.std.proofs.lemmas.Iterator.Search.{all_from_yields_List}
use Rattle.logic.proofs.Chains.{list_all_is_all_of}
use Rattle.scheduler.specs.candidates.Inner.{at_last, over}
use Rattle.scheduler.proofs.candidates.over.Goals as goal

pub returns : goal.returns
unfolding over
returns c =
    all_from_yields_List (at_last c.args.gates) _ _ _ c.all.ensures.ran (YieldsList-from_slice c.args.digits.now cc) (λ x b q k. search (rules, tests))
    ∙ list_all_is_all_of _ _
