-- Five times, each written after the last.
use native.Mathlib.Omega.{arith}
use Rattle.text.proofs.pieces.Pieces.{more, spaced_short}
use Rattle.reports.specs.refusal.Report.{times}
use Rattle.reports.proofs.pass.put_times.Goals as goal

pub put_spaced-b-requires : goal.put_spaced-b-requires
put_spaced-b-requires c = omega (arith, spaced_short c.args.m.ready0)

pub put_spaced-c-requires : goal.put_spaced-c-requires
put_spaced-c-requires c = omega (arith, spaced_short c.args.m.ready0, spaced_short c.args.m.ready1)

pub put_spaced-d-requires : goal.put_spaced-d-requires
put_spaced-d-requires c =
    omega (
      arith,
      c.put_spaced-a.ensures.size,
      c.put_spaced-b.ensures.size,
      c.put_spaced-c.ensures.size,
      spaced_short c.args.m.ready0,
      spaced_short c.args.m.ready1,
      spaced_short c.args.m.ready2,
    )

pub put_decimal-requires : goal.put_decimal-requires
put_decimal-requires c =
    omega (
      arith,
      c.put_spaced-a.ensures.size,
      c.put_spaced-b.ensures.size,
      c.put_spaced-c.ensures.size,
      c.put_spaced-d.ensures.size,
      spaced_short c.args.m.ready0,
      spaced_short c.args.m.ready1,
      spaced_short c.args.m.ready2,
      spaced_short c.args.m.ready3,
    )

pub returns : goal.returns
unfolding times
returns c =
    more c.put_spaced-a.ensures
    (more c.put_spaced-b.ensures (more c.put_spaced-c.ensures (more c.put_spaced-d.ensures c.put_decimal.ensures)))
