-- The word, the times and a line feed, each written after the last.
use native.Mathlib.Omega.{arith}
use Rattle.text.proofs.pieces.Pieces.{more}
use Rattle.reports.specs.refusal.Report.{ready_line}
use Rattle.reports.proofs.refusal.Short.{times_short}
use Rattle.reports.proofs.pass.put_ready.Goals as goal

pub put-requires : goal.put-requires
put-requires c = omega (arith, times_short c.args.m)

pub returns : goal.returns
unfolding ready_line
returns c = more c.put_text-a.ensures (more c.put_times-b.ensures c.put.ensures)
