-- The path is filled gate by gate. Invariant: its first i places hold the gates of the first i digits.
use Rattle.std.proofs.Common.{◌≡◌, length, take}
use Rattle.scheduler.specs.candidates.Left.{chosen, digits_at}
use Rattle.scheduler.proofs.candidates.gates_at.Given as goal

abbrev pub invariant-loop-i : goal.invariant-loop-i
invariant-loop-i l = (length l.path ≡ 12) × (take l.i l.path ≡ take l.i (chosen l.table (digits_at l.at)))
