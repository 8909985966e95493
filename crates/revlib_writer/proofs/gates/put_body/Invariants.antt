-- The lines are written one by one. Invariant: those that are left are still owed.
use Rattle.std.proofs.Common.{map, drop}
use Rattle.revlib.specs.Grammar.{body}
use Rattle.revlib.specs.Writing.{line_for}
use Rattle.revlib_writer.proofs.gates.Lines.{Owed}
use Rattle.revlib_writer.proofs.gates.put_body.Given as goal

abbrev pub invariant-loop-b : goal.invariant-loop-b
invariant-loop-b l = Owed l.initial.out l.i (body (map line_for l.gates)) l.out l.at (body (map line_for (drop l.b-index l.gates)))
