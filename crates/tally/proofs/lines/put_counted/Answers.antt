-- The word, and then the number.
use Rattle.text.proofs.pieces.Pieces.{more}
use Rattle.tally.specs.lines.Lines.{counted}
use Rattle.tally.proofs.lines.put_counted.Goals as goal

pub returns : goal.returns
unfolding counted
returns c = more c.put_text-a.ensures c.put_decimal.ensures
