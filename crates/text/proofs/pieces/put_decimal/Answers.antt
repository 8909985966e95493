-- Five places, each written after the last: together they are the number.
use Rattle.text.specs.pieces.Text.{decimal}
use Rattle.text.proofs.pieces.Pieces.{more}
use Rattle.text.proofs.pieces.put_decimal.Goals as goal

pub returns : goal.returns
unfolding decimal
returns c =
    more c.put_place-a.ensures
    (more c.put_place-b.ensures (more c.put_place-c.ensures (more c.put_place-d.ensures c.put.ensures)))
