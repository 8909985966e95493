-- Each line by its number.
use native.Mathlib.Omega.{arith}
use borrow.Author.Tests.{lt-ltb, le-ltb, eq-eqb, ne_eqb}
use Rattle.text.specs.pieces.Writing.{Wrote}
use Rattle.text.proofs.pieces.Pieces.{line_size}
use Rattle.tally.specs.lines.Lines.{line_at}
use Rattle.tally.proofs.lines.Short.{line_short}
use Rattle.tally.proofs.lines.put_line.Goals as goal

pub returns-then-i-lt9 : goal.returns-then-i-lt9
unfolding line_at
returns-then-i-lt9 c =
    let w : Wrote c.args.out.now 0 (line_at c.args.cells.now c.args.i) c.put_gates.new.out c.put_gates.result
    = rw (lt-ltb c.args.i 9 (omega arith)) c.put_gates.ensures in
    record { wrote = w; upper_bound = omega (arith, line_size w, line_short c.args.cells.now c.args.i) }

pub returns-then-i-eq9-clause-wrote : goal.returns-then-i-eq9-clause-wrote
unfolding line_at
returns-then-i-eq9-clause-wrote c =
    rw (le-ltb c.args.i 9 (omega arith), eq-eqb c.args.i 9 (omega arith), ← c.count.ensures) c.put_number.ensures.wrote

pub returns : goal.returns
unfolding line_at
returns c =
    let w : Wrote c.args.out.now 0 (line_at c.args.cells.now c.args.i) c.put_cell.new.out c.put_cell.result
    = rw (le-ltb c.args.i 9 (omega arith), ne_eqb c.args.i 9 (λ e. omega arith), ← c.place.ensures) c.put_cell.ensures in
    record { wrote = w; upper_bound = omega (arith, line_size w, line_short c.args.cells.now c.args.i) }
