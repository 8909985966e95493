use Rattle.std.proofs.Common.{rules, tests, ◌∙◌}
use Rattle.std.proofs.lemmas.Iterator.{YieldsList-from_slice}
use Rattle.std.proofs.lemmas.Iterator.Search.{all_from_yields_List}
use Rattle.logic.proofs.Chains.{list_all_is_all_of}
use Rattle.table.specs.Rows.{row_ok}
use Rattle.table.proofs.rows_ok.Goals as goal

pub returns : goal.returns
returns c =
    all_from_yields_List (row_ok c.args.n) _ _ _ c.all.ensures.ran (YieldsList-from_slice c.args.rows.now cc) (λ x b q k. search (rules, tests))
    ∙ list_all_is_all_of _ _
