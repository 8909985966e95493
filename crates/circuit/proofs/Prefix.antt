-- No measure of a prefix exceeds that of the whole list. The depth is at most the sum of the durations.
use mathlib.Core.List.{List, ◌++◌}
use Prim.Native.Nat.{ℕ, ◌≤◌}
use native.Mathlib.Omega.{arith}
use lib.ListN.{length, length-append}
use Rattle.logic.specs.Lists.{total}
use Rattle.logic.proofs.Fold.{total_append, along_append}
use Rattle.circuit.specs.Measure.{cost, hold_byte, idle, ready_times, depth}
use Rattle.circuit.proofs.Times.{Sooner, ready_rises, ready_until, idle_until, greatest_until, greatest_sooner}

module _ (price duration : ℕ → ℕ) (l e : List ℕ) where
  pub gates_front : length l ≤ length (l ++ e)
  gates_front = omega (arith, length-append l e)

  pub cost_front : cost price l ≤ cost price (l ++ e)
  cost_front = omega (arith, total_append price l e)

  pub ready_front : Sooner (ready_times duration l) (ready_times duration (l ++ e))
  ready_front w = rw (along_append (hold_byte duration) l e idle) (ready_rises duration e (ready_times duration l) w)

  pub depth_front : depth duration l ≤ depth duration (l ++ e)
  depth_front = greatest_sooner (ready_times duration l) (ready_times duration (l ++ e)) ready_front

pub depth_most : (duration : ℕ → ℕ) (gs : List ℕ) → depth duration gs ≤ total duration gs
depth_most duration gs =
    greatest_until (ready_times duration gs) (total duration gs) (λ w. omega (arith, ready_until duration gs idle 0 idle_until w))
