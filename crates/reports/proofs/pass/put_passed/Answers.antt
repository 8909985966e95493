-- Five pieces, each written after the last: together they are the line.
use native.Mathlib.Omega.{arith}
use Rattle.text.proofs.pieces.Pieces.{more, spaced_short, decimal_short}
use Rattle.reports.specs.refusal.Report.{passed_line}
use Rattle.reports.proofs.pass.put_passed.Goals as goal

pub put_spaced-c-requires : goal.put_spaced-c-requires
put_spaced-c-requires c = omega (arith, spaced_short c.args.m.gates)

pub put_decimal-d-requires : goal.put_decimal-d-requires
put_decimal-d-requires c = omega (arith, spaced_short c.args.m.gates, spaced_short c.args.m.cost)

pub put-requires : goal.put-requires
put-requires c = omega (arith, spaced_short c.args.m.gates, spaced_short c.args.m.cost, decimal_short c.args.m.depth)

pub returns : goal.returns
unfolding passed_line
returns c =
    more c.put_text-a.ensures
    (more c.put_spaced-b.ensures (more c.put_spaced-c.ensures (more c.put_decimal-d.ensures c.put.ensures)))
