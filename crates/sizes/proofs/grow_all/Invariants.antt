-- Invariant: every cell whose least count is at most k holds it, and the others hold 255.
use mathlib.Core.Path.{◌≡◌}
use Prim.Native.Nat.{suc}
use lib.ListN.{length}
use Rattle.sizes.specs.permutations.Inner.{Level}
use Rattle.sizes.proofs.grow_all.Given as goal

abbrev pub invariant-loop-k : goal.invariant-loop-k
invariant-loop-k l = (length l.cells ≡ 40320) × (Level 1 l.initial.cells → Level (suc l.k) l.cells)
