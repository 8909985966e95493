-- Three pieces, each written after the last.
use Rattle.text.specs.pieces.Text.{refused_line}
use Rattle.text.proofs.pieces.Pieces.{more}
use Rattle.text.proofs.put_refused.Goals as goal

pub returns : goal.returns
unfolding refused_line
returns c = more c.put_text-a.ensures (more (rw c.from.ensures at c.put_decimal-b.ensures) c.put.ensures)
