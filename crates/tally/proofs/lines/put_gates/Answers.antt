-- Three words with their numbers, and then the line feed.
use native.Mathlib.Omega.{arith}
use Rattle.logic.specs.Words.{bytes}
use Rattle.text.proofs.pieces.Pieces.{more}
use Rattle.tally.specs.lines.Lines.{gates_line}
use Rattle.tally.proofs.lines.Short.{counted_short}
use Rattle.tally.proofs.lines.put_gates.Goals as goal

pub put_counted-b-requires : goal.put_counted-b-requires
put_counted-b-requires c = omega (arith, c.put_counted-a.ensures.size, counted_short (bytes "gates ") c.args.k)

pub put_counted-c-requires : goal.put_counted-c-requires
put_counted-c-requires c =
    omega (
      arith,
      c.put_counted-a.ensures.size,
      c.put_counted-b.ensures.size,
      counted_short (bytes "gates ") c.args.k,
      counted_short (bytes ": ") c.count-n.result,
    )

pub put-requires : goal.put-requires
put-requires c =
    omega (
      arith,
      c.put_counted-a.ensures.size,
      c.put_counted-b.ensures.size,
      c.put_counted-c.ensures.size,
      counted_short (bytes "gates ") c.args.k,
      counted_short (bytes ": ") c.count-n.result,
      counted_short (bytes ", published ") c.published-figure.result,
    )

pub returns : goal.returns
unfolding gates_line
returns c =
    rw (← c.count-n.ensures, ← c.published-figure.ensures)
    (more c.put_counted-a.ensures (more c.put_counted-b.ensures (more c.put_counted-c.ensures c.put.ensures)))
