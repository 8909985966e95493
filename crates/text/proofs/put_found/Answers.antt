-- Six pieces, each written after the last: together they are the line.
use Rattle.text.specs.pieces.Text.{found_line}
use Rattle.text.proofs.pieces.Pieces.{more}
use Rattle.text.proofs.put_found.Goals as goal

pub returns : goal.returns
unfolding found_line
returns c =
    let gates = rw c.from.ensures at c.put_spaced-b.ensures in
    let cost = rw c.from-2.ensures at c.put_spaced-c.ensures in
    let depth = rw c.from-3.ensures at c.put_spaced-d.ensures in
    more c.put_text-a.ensures (more gates (more cost (more depth (more c.put_hex-e.ensures c.put.ensures))))
