-- Invariant: `orders` is n factorial, `place` is bounded by the digits passed, and `place` with what the n values to come add to it is the
-- neighbor's place.
use mathlib.Core.Path.{◌≡◌}
use mathlib.Core.List.{map}
use Prim.Native.Nat.{◌+◌, ◌-◌, ◌*◌, ◌≤◌}
use Rattle.gate.specs.Gates.{step}
use Rattle.sizes.specs.permutations.Orders.{factorial}
use Rattle.sizes.specs.permutations.Inner.{arranged, placed, neighbor_of}
use Rattle.sizes.proofs.neighbors.neighbor.Given as goal

abbrev pub invariant-loop-n : goal.invariant-loop-n
invariant-loop-n l = (l.orders ≡ factorial l.n) × ((l.orders ≤ 40320) × ((l.place ≤ 322560 * (8 - l.n))
    × (l.place + placed l.to (map (step l.g) (arranged l.n l.from l.rest)) ≡ neighbor_of l.g l.r)))
