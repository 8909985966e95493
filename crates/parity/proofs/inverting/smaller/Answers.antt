use Rattle.std.proofs.Common.{◌≡◌, ltb, count_by, rules, ◌∙◌}
use Rattle.table.specs.Rows.{value_of}
use Rattle.parity.proofs.permuting.Values.{smaller_is}
use Rattle.parity.proofs.inverting.smaller.Goals as goal

pub returns-clause-value : goal.returns-clause-value
returns-clause-value c =
    let counted : c.count.result ≡ count_by (λ row. ltb (value_of row) c.args.x) c.args.rows.now = search rules in
    counted ∙ smaller_is c.args.x c.args.rows.now
