use Rattle.std.proofs.Common.{rules, tests, ◌∙◌}
use Rattle.std.proofs.lemmas.Iterator.{YieldsList-from_slice}
use Rattle.std.proofs.lemmas.Iterator.Search.{all_from_yields_List}
use Rattle.logic.proofs.Chains.{list_all_is_all_of}
use Rattle.table.specs.Rows.{value_of}
use Rattle.parity.specs.Parity.{differs}
use Rattle.parity.proofs.permuting.Values.{all_map}
use Rattle.parity.proofs.permuting.absent.Goals as goal

pub returns : goal.returns
returns c =
    all_from_yields_List (λ row. differs c.args.x (value_of row)) _ _ _ c.all.ensures.ran (YieldsList-from_slice c.args.rows.now cc) (λ x b q k. search (rules, tests))
    ∙ list_all_is_all_of _ _
    ∙ all_map value_of (differs c.args.x) c.args.rows.now
