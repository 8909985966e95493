-- The rows are written one after the other. Invariant: the first twelve bytes and x rows stand there.
use mathlib.Core.Path.{◌≡◌}
use mathlib.Core.List.{List, ◌++◌, map}
use Prim.Native.Nat.{ℕ, ◌+◌, ◌-◌, ◌*◌, ◌%◌}
use lib.ListN.{length, take}
use Rattle.logic.specs.Lists.{numbers_from}
use Rattle.circuit.specs.run.Run.{forwards}
use Rattle.peephole.proofs.listing.window_job.Given as goal

-- the row of a value among so many
abbrev pub row_of : ℕ → List ℕ → ℕ → ℕ
row_of count gates x = 16 * (count - 1) + forwards gates x % 16

abbrev pub invariant-loop-x : goal.invariant-loop-x
invariant-loop-x l = (length l.job ≡ length l.initial.job) × (take (12 + l.x) l.job ≡ take 12 l.initial.job ++ map (row_of l.count l.gates) (numbers_from 0 l.x))
