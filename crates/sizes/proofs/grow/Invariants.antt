-- Invariant: the cells before r have been swept.
use mathlib.Core.Path.{◌≡◌}
use Prim.Native.Nat.{suc}
use lib.ListN.{length}
use Rattle.sizes.specs.permutations.Inner.{Level, Swept}
use Rattle.sizes.proofs.grow.Given as goal

abbrev pub invariant-loop-r : goal.invariant-loop-r
invariant-loop-r l = (length l.cells ≡ 40320) × (Level (suc l.k) l.initial.cells → Swept (suc l.k) l.r l.cells)
