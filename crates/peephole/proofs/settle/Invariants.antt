-- One replacement after the other. Invariant: the gates at hand come to the same end as those at entry, and no window that begins before
-- `from` yields. Measure: each turn makes the list cheaper.
use mathlib.Core.Path.{◌≡◌}
use Prim.Native.Nat.{◌≤◌}
use lib.ListN.{length, take}
use Rattle.peephole.specs.windows.Windows.{cost_at, better, rewritten}
use Rattle.peephole.specs.windows.Inner.{Still}
use Rattle.peephole.proofs.settle.Given as goal

abbrev pub invariant-loop-hit : goal.invariant-loop-hit
invariant-loop-hit l = (l.count ≤ length l.list) × ((length l.list ≡ length l.initial.list) × ((l.from ≤ l.count)
    × ((rewritten l.wires l.window l.prices (take l.count l.list) ≡ rewritten l.wires l.window l.prices l.initial.list)
    × Still (better l.wires l.prices) l.window l.from (take l.count l.list))))

abbrev pub decreases-loop-hit : goal.decreases-loop-hit
decreases-loop-hit l = cost_at l.prices (take l.count l.list)
