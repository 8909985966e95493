-- Two words with their numbers, and then the line feed.
use mathlib.Core.Path.{◌∙◌}
use native.Mathlib.Omega.{arith}
use Rattle.logic.specs.Words.{bytes}
use Rattle.text.proofs.pieces.Pieces.{more}
use Rattle.tally.specs.lines.Lines.{cell_line}
use Rattle.tally.proofs.lines.Short.{counted_short}
use Rattle.tally.proofs.lines.put_cell.Goals as goal

pub put_counted-b-requires : goal.put_counted-b-requires
put_counted-b-requires c = omega (arith, c.put_counted-a.ensures.size, counted_short (bytes "cell ") c.args.place)

pub put-requires : goal.put-requires
put-requires c =
    omega (
      arith,
      c.put_counted-a.ensures.size,
      c.put_counted-b.ensures.size,
      counted_short (bytes "cell ") c.args.place,
      counted_short (bytes ": ") c.from-cell.result,
    )

pub returns : goal.returns
unfolding cell_line
returns c =
    let held = c.from-cell.ensures ∙ c.at.ensures in
    rw (← held) (more c.put_counted-a.ensures (more c.put_counted-b.ensures c.put.ensures))
