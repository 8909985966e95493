use Rattle.std.proofs.Common.{rules, tests, ◌∙◌}
use Rattle.std.proofs.lemmas.Iterator.{YieldsList-from_slice}
use Rattle.std.proofs.lemmas.Iterator.Consumers.{YieldsList-from_enumerate}
use Rattle.std.proofs.lemmas.Iterator.Search.{all_from_yields_List}
use Rattle.circuit.specs.run.Run.{forwards}
use Rattle.table.specs.Rows.{row_agrees}
use Rattle.table.proofs.Rows.{agrees_in_turn}
use Rattle.table.proofs.agreement.agrees.Goals as goal

pub returns : goal.returns
returns c =
    let ends = forwards c.args.list.now in
    all_from_yields_List (λ q. row_agrees c.args.p q.1 (ends q.0)) _ _ _ c.all.ensures.ran
    (YieldsList-from_enumerate (YieldsList-from_slice c.args.rows.now (cc)) (cc)) (λ x b q k. search (rules, tests))
    ∙ agrees_in_turn c.args.p ends 0 c.args.rows.now
