-- Invariant: after k turns no choice was found that misses fewer than k bits, and `best` is the first of those that miss at most k.
use mathlib.Core.Path.{◌≡◌}
use mathlib.Core.Option.{none}
use Prim.Native.Nat.{ℕ, ◌<◌}
use Rattle.problem.specs.order.View.{view}
use Rattle.problem.specs.Problems.{first_good}
use Rattle.approximate.proofs.Posed.{near}
use Rattle.approximate.proofs.approach.Given as goal

abbrev pub invariant-loop-k : goal.invariant-loop-k
invariant-loop-k l = (view l.best ≡ first_good (near l.job l.k)) × ((j : ℕ) → j < l.k → first_good (near l.job j) ≡ none)
