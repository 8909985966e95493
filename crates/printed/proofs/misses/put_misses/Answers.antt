-- Three pieces, each written after the last.
use native.Mathlib.Omega.{arith}
use Rattle.text.proofs.pieces.Pieces.{more, decimal_short}
use Rattle.printed.specs.misses.Closeness.{misses_line}
use Rattle.printed.proofs.misses.put_misses.Goals as goal

pub put-requires : goal.put-requires
put-requires c = omega (arith, decimal_short c.args.k)

pub returns : goal.returns
unfolding misses_line
returns c = more c.put_text-a.ensures (more c.put_decimal-b.ensures c.put.ensures)
