-- The invariant: the gate of each entry passed is marked.
use Rattle.std.proofs.Common.{◌≡◌, length, take}
use Rattle.std.specs.List.{All}
use Rattle.solver.proofs.prospects.EachOnce.{Marked}
use Rattle.solver.proofs.prospects.listed.Given as goal

abbrev pub invariant-loop-entry : goal.invariant-loop-entry
invariant-loop-entry l = (length l.listed ≡ 256) × All (Marked l.listed) (take l.entry-index l.entries)
