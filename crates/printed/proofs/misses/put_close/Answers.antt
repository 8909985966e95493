-- The misses and the line, the one written after the other.
use native.Mathlib.Omega.{arith}
use Rattle.text.specs.pieces.Writing.{Wrote}
use Rattle.text.proofs.pieces.Pieces.{more, line_size, line_in_front}
use Rattle.printed.specs.misses.Inner.{both_lines}
use Rattle.printed.proofs.misses.Lengths.{misses_short, both_short}
use Rattle.printed.proofs.misses.put_close.Goals as goal

pub put_found-requires-clause-i_in_bounds : goal.put_found-requires-clause-i_in_bounds
put_found-requires-clause-i_in_bounds c = omega (arith, misses_short c.args.k, c.requires.in_bounds)

pub returns : goal.returns
unfolding both_lines
returns c =
    let w : Wrote c.args.out.now 0 (both_lines c.args.k c.args.m c.args.circuit.now) c.put_found.new.out c.put_found.result
    = more c.put_misses-a.ensures c.put_found.ensures in
    let short = both_short c.args.k c.args.m c.args.circuit.now c.requires.circuit_len_bound in
    record { value = line_size w; upper_bound = omega (arith, line_size w); out_after = line_in_front w (omega (arith, c.requires.in_bounds)) }
