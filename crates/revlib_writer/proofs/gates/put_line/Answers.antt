-- Each arm has the letters of its kind.
use Rattle.revlib_writer.proofs.gates.Lines.{letters_not, letters_cnot, letters_toffoli, target_lt, cnot_lt, toffoli_lt, no_cccnot}
use Rattle.revlib_writer.proofs.gates.put_line.Goals as goal
use Rattle.revlib_writer.proofs.gates.put_line.Goals.{In-Not}

pub letter-t-requires : goal.letter-t-requires
letter-t-requires c = target_lt c.args.b _ c.decode-g.ensures c.requires.b_value

pub put_letters-requires-clause-in_bounds : goal.put_letters-requires-clause-in_bounds
put_letters-requires-clause-in_bounds c = rw (c.letter-t.ensures, letters_not c.args.b _ c.decode-g.ensures c.in-Not.is) c.requires.b_in_bounds

pub letter-requires : goal.letter-requires
letter-requires c = cnot_lt c.args.b _ c.decode-g.ensures c.requires.b_value _ c.in-Cnot.is

pub put_letters-requires-in-Cnot-clause-in_bounds : goal.put_letters-requires-in-Cnot-clause-in_bounds
put_letters-requires-in-Cnot-clause-in_bounds c =
    rw (c.letter-t.ensures, c.letter.ensures, letters_cnot c.args.b _ c.decode-g.ensures _ c.in-Cnot.is) c.requires.b_in_bounds

pub letter-requires-in-Toffoli : goal.letter-requires-in-Toffoli
letter-requires-in-Toffoli c = (toffoli_lt c.args.b _ c.decode-g.ensures c.requires.b_value _ _ c.in-Toffoli.is).0

pub letter-requires-in-Toffoli-2 : goal.letter-requires-in-Toffoli-2
letter-requires-in-Toffoli-2 c = (toffoli_lt c.args.b _ c.decode-g.ensures c.requires.b_value _ _ c.in-Toffoli.is).1

pub put_letters-requires-in-Toffoli-clause-in_bounds : goal.put_letters-requires-in-Toffoli-clause-in_bounds
put_letters-requires-in-Toffoli-clause-in_bounds c =
    rw (c.letter-t.ensures, c.letter-in-Toffoli.ensures, c.letter-in-Toffoli-2.ensures, letters_toffoli c.args.b _ c.decode-g.ensures _ _ c.in-Toffoli.is) c.requires.b_in_bounds

pub unreachable-requires : goal.unreachable-requires
unreachable-requires c = no_cccnot c.args.b _ c.decode-g.ensures c.requires.b_value _ _ _ c.in-Cccnot.is

pub returns-in-Not : goal.returns-in-Not
returns-in-Not c = rw (← letters_not c.args.b _ c.decode-g.ensures c.in-Not.is, ← c.letter-t.ensures) c.put_letters.ensures

pub returns-in-Cnot : goal.returns-in-Cnot
returns-in-Cnot c = rw (← letters_cnot c.args.b _ c.decode-g.ensures _ c.in-Cnot.is, ← c.letter-t.ensures, ← c.letter.ensures) c.put_letters-in-Cnot.ensures

pub returns-in-Toffoli : goal.returns-in-Toffoli
returns-in-Toffoli c =
    rw (← letters_toffoli c.args.b _ c.decode-g.ensures _ _ c.in-Toffoli.is, ← c.letter-t.ensures, ← c.letter-in-Toffoli.ensures, ← c.letter-in-Toffoli-2.ensures)
    c.put_letters-in-Toffoli.ensures
