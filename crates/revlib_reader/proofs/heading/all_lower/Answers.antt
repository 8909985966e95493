use Rattle.std.proofs.Common.{rules, tests, ◌∙◌}
use Rattle.std.proofs.lemmas.Iterator.{YieldsList-from_slice}
use Rattle.std.proofs.lemmas.Iterator.Search.{all_from_yields_List}
use Rattle.logic.proofs.Chains.{list_all_is_all_of}
use Rattle.revlib.specs.Grammar.{lower_case}
use Rattle.revlib_reader.proofs.heading.all_lower.Goals as goal

pub returns : goal.returns
unfolding lower_case
returns c =
    all_from_yields_List lower_case _ _ _ c.all.ensures.ran (YieldsList-from_slice c.args.letters.now cc) (λ x b q k. search (rules, tests))
    ∙ list_all_is_all_of _ _
