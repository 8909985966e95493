-- The windows are looked at from the left. Invariant: if no window that begins before `from` yields, none that begins before `at` does.
use Prim.Native.Nat.{◌≤◌}
use lib.ListN.{length}
use Rattle.peephole.specs.windows.Windows.{better}
use Rattle.peephole.specs.windows.Inner.{Still}
use Rattle.peephole.proofs.next_hit.Given as goal

abbrev pub invariant-loop-at : goal.invariant-loop-at
invariant-loop-at l =
    (l.at ≤ length l.list) × (Still (better l.wires l.prices) l.window l.from l.list → Still (better l.wires l.prices) l.window l.at l.list)
