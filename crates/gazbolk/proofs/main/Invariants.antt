-- Each turn of the loop runs one command, and goes on to the next.
use Rattle.std.proofs.Common.{◌-◌, ◌≤◌}
use Rattle.gazbolk.proofs.main.Given as goal

abbrev pub invariant-loop-at : goal.invariant-loop-at
invariant-loop-at l = (l.count ≤ 1000000) × (l.at ≤ l.count)

abbrev pub decreases-loop-at : goal.decreases-loop-at
decreases-loop-at l = l.count - l.at
