-- A word, two numbers and a line feed, each written after the last.
use native.Mathlib.Omega.{arith}
use Rattle.text.proofs.pieces.Pieces.{more, spaced_short}
use Rattle.printed.specs.rewriting.Rewriting.{count_line}
use Rattle.printed.proofs.rewriting.Printed.{millions_short}
use Rattle.printed.proofs.rewriting.put_counts.Goals as goal

pub put_millions-c-requires : goal.put_millions-c-requires
put_millions-c-requires c = omega (arith, spaced_short c.args.count)

pub put-requires : goal.put-requires
put-requires c = omega (arith, spaced_short c.args.count, millions_short c.args.cost)

pub returns : goal.returns
unfolding count_line
returns c = more c.put_text-a.ensures (more c.put_spaced-b.ensures (more c.put_millions-c.ensures c.put.ensures))
