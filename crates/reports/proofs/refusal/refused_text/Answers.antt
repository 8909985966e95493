-- The line, the sentence and a line feed, each written after the last.
use native.Mathlib.Omega.{arith}
use Rattle.text.specs.pieces.Writing.{Wrote}
use Rattle.text.proofs.pieces.Pieces.{more, line_size, line_in_front}
use Rattle.reports.specs.refusal.Report.{refused_text}
use Rattle.reports.proofs.meanings.Brief.{meaning_short}
use Rattle.reports.proofs.refusal.Short.{refused_line_short, refused_short}
use Rattle.reports.proofs.refusal.refused_text.Goals as goal
use Rattle.reports.proofs.refusal.refused_text.Goals.{After-slice_known-4-1}

-- both lines, as one piece
whole : (c : After-slice_known-4-1)
    → Wrote c.args.out.now 0 (refused_text c.args.code) c.put.new.out c.put.result
unfolding refused_text
whole c =
    more c.put_refused-a.ensures (more c.put_meaning-b.ensures c.put.ensures)

pub put_meaning-b-requires : goal.put_meaning-b-requires
put_meaning-b-requires c = omega (arith, refused_line_short c.args.code)

pub put-requires : goal.put-requires
put-requires c = omega (arith, refused_line_short c.args.code, meaning_short c.args.code)

pub returns-clause-out_after : goal.returns-clause-out_after
returns-clause-out_after c = let w = whole (goal.at.returns-clause-out_after c).After-slice_known-4-1 in line_in_front w (omega (arith, refused_short c.args.code, c.requires))

pub returns-clause-value : goal.returns-clause-value
returns-clause-value c = let w = whole (goal.at.returns-clause-value c).After-slice_known-4-1 in line_size w
