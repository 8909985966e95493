-- The invariant: the sums of the numbers passed, each of them at most 16 for each number.
use Rattle.std.proofs.Common.{◌≡◌, ◌-◌, ◌*◌, drop}
use Rattle.near_misses.specs.misses.Columns.{lefts, AtMost}
use Rattle.near_misses.proofs.fewest.least_left.Given as goal

abbrev pub invariant-loop-i : goal.invariant-loop-i
invariant-loop-i l = (l.least ≡ lefts (drop l.i l.missed)) × AtMost (16 * (4 - l.i)) l.least
