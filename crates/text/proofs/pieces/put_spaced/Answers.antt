use Rattle.text.specs.pieces.Text.{spaced}
use Rattle.text.proofs.pieces.Pieces.{more}
use Rattle.text.proofs.pieces.put_spaced.Goals as goal

pub returns : goal.returns
unfolding spaced
returns c = more c.put_decimal-end.ensures c.put.ensures
