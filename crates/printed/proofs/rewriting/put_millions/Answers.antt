-- Two places and the five below them, each written after the last.
use native.Mathlib.Omega.{arith}
use Rattle.text.proofs.pieces.Pieces.{more, place_short}
use Rattle.printed.specs.rewriting.Rewriting.{millions}
use Rattle.printed.proofs.rewriting.put_millions.Goals as goal

pub put_place-b-requires-clause-i_in_bounds : goal.put_place-b-requires-clause-i_in_bounds
put_place-b-requires-clause-i_in_bounds c = omega (arith, place_short c.args.n 1000000)

pub put_decimal-requires : goal.put_decimal-requires
put_decimal-requires c = omega (arith, place_short c.args.n 1000000, place_short c.args.n 100000)

pub returns : goal.returns
unfolding millions
returns c = more c.put_place-a.ensures (more c.put_place-b.ensures c.put_decimal.ensures)
