-- The two lines, one after the other: together they are the text, and the rest of the buffer stays.
use native.Mathlib.Omega.{arith}
use Rattle.text.specs.pieces.Writing.{Wrote}
use Rattle.text.proofs.pieces.Pieces.{more, line_size, line_in_front}
use Rattle.reports.specs.refusal.Report.{passed_text}
use Rattle.reports.proofs.refusal.Short.{passed_line_short, passed_short}
use Rattle.reports.proofs.pass.passed_text.Goals as goal
use Rattle.reports.proofs.pass.passed_text.Goals.{After-slice_known-3-1}

-- both lines, as one piece
whole : (c : After-slice_known-3-1)
    → Wrote c.args.out.now 0 (passed_text c.args.m) c.put_ready.new.out c.put_ready.result
unfolding passed_text
whole c =
    more c.put_passed-a.ensures c.put_ready.ensures

pub put_ready-requires : goal.put_ready-requires
put_ready-requires c = omega (arith, passed_line_short c.args.m)

pub returns-clause-out_after : goal.returns-clause-out_after
returns-clause-out_after c = let w = whole (goal.at.returns-clause-out_after c).After-slice_known-3-1 in line_in_front w (omega (arith, passed_short c.args.m, c.requires))

pub returns-clause-value : goal.returns-clause-value
returns-clause-value c = let w = whole (goal.at.returns-clause-value c).After-slice_known-3-1 in line_size w
