-- The letters are written one by one. Invariant: those that are left are still owed, and a line feed after them.
use Rattle.std.proofs.Common.{◌++◌, drop}
use Rattle.logic.specs.Words.{bytes}
use Rattle.revlib.specs.Grammar.{spaced, gate_line}
use Rattle.revlib_writer.proofs.gates.Lines.{Owed}
use Rattle.revlib_writer.proofs.gates.put_letters.Given as goal

abbrev pub invariant-loop-x : goal.invariant-loop-x
invariant-loop-x l = Owed l.fn.out l.i (gate_line l.letters) l.out l.at (spaced (drop l.x-index l.letters) ++ bytes "\n")
