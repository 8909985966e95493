use Rattle.std.proofs.Common.{ap, length, arith}
use Rattle.revlib.specs.Writing.{line_for}
use Rattle.revlib_writer.proofs.gates.Lines.{letters_not, letters_cnot, letters_toffoli, letters_cccnot, gate_line_size}
use Rattle.revlib_writer.proofs.gates.line_size.Goals as goal

pub returns-in-Not-clause-value : goal.returns-in-Not-clause-value
returns-in-Not-clause-value c = omega (arith, gate_line_size (line_for c.args.b), ap length (letters_not c.args.b _ c.decode.ensures c.in-Not.is))

pub returns-in-Cnot-clause-value : goal.returns-in-Cnot-clause-value
returns-in-Cnot-clause-value c = omega (arith, gate_line_size (line_for c.args.b), ap length (letters_cnot c.args.b _ c.decode.ensures _ c.in-Cnot.is))

pub returns-in-Toffoli-clause-value : goal.returns-in-Toffoli-clause-value
returns-in-Toffoli-clause-value c = omega (arith, gate_line_size (line_for c.args.b), ap length (letters_toffoli c.args.b _ c.decode.ensures _ _ c.in-Toffoli.is))

pub returns-in-Cccnot-clause-value : goal.returns-in-Cccnot-clause-value
returns-in-Cccnot-clause-value c = omega (arith, gate_line_size (line_for c.args.b), ap length (letters_cccnot c.args.b _ c.decode.ensures _ _ _ c.in-Cccnot.is))
