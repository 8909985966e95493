-- The word with the number, and then the line feed.
use native.Mathlib.Omega.{arith}
use Rattle.text.specs.pieces.Writing.{Wrote}
use Rattle.text.proofs.pieces.Pieces.{more, line_size}
use Rattle.tally.specs.lines.Lines.{number_line}
use Rattle.tally.proofs.lines.Short.{counted_short, number_short}
use Rattle.tally.proofs.lines.put_number.Goals as goal

pub put-requires : goal.put-requires
put-requires c = omega (arith, counted_short c.args.word.now c.args.n)

pub returns : goal.returns
unfolding number_line
returns c =
    let w : Wrote c.args.out.now 0 (number_line c.args.word.now c.args.n) c.put.new.out c.put.result
    = more c.put_counted-a.ensures c.put.ensures in
    record { wrote = w; upper_bound = omega (arith, line_size w, number_short c.args.word.now c.args.n c.requires.word_len_bound) }
