use Rattle.std.proofs.Common.{rules, tests, ◌∙◌}
use Rattle.std.proofs.lemmas.Iterator.{YieldsList-from_slice}
use Rattle.std.proofs.lemmas.Iterator.Search.{all_from_yields_List}
use Rattle.logic.proofs.Chains.{list_all_is_all_of}
use Rattle.library.specs.entries.Inner.{timed}
use Rattle.library.proofs.entry_measures.all_timed.Goals as goal

pub returns : goal.returns
returns c =
    all_from_yields_List (timed c.args.library.now) _ _ _ c.all.ensures.ran (YieldsList-from_slice c.args.list.now cc) (λ x b q k. search (rules, tests))
    ∙ list_all_is_all_of _ _
