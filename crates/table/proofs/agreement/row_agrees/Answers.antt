use Rattle.std.proofs.Common.{rules, tests, refl, ◌∙◌}
use Rattle.std.proofs.lemmas.Iterator.{YieldsList-from_range}
use Rattle.std.proofs.lemmas.Iterator.Search.{all_from_yields_List}
use Rattle.logic.proofs.Chains.{list_all_is_all_below}
use Rattle.table.specs.Rows.{row_agrees, bit_agrees}
use Rattle.table.proofs.agreement.row_agrees.Goals as goal

pub returns : goal.returns
unfolding row_agrees
returns c =
    let right = bit_agrees c.args.p c.args.row c.args.v in
    all_from_yields_List right _ _ _ c.all.ensures.ran (YieldsList-from_range 0 4 4 (cc) refl) (λ x b q k. search (rules, tests))
    ∙ list_all_is_all_below right 4
