-- The digits are made one by one. Invariant: the first i are those of the next list.
use Rattle.std.proofs.Common.{◌≡◌, length, take}
use Rattle.scheduler.specs.candidates.Inner.{bump}
use Rattle.scheduler.proofs.candidates.bump.Given as goal

abbrev pub invariant-loop-i : goal.invariant-loop-i
invariant-loop-i l = (length l.next ≡ 12) × (take l.i l.next ≡ take l.i (bump l.gates (take l.len l.digits)))
