-- What a search is given: a filter with the entries, and a cost that nothing is below.
use mathlib.Core.List.{List}
use Prim.Native.Nat.{ℕ}
use native.Mathlib.Omega.{arith}
use Rattle.problem.specs.declared.Entry.{Entry}
use Rattle.problem.specs.Entries.{entry_gates}
use Rattle.problem.specs.Problems.{Problem}
use Rattle.problem.specs.Inner.{Dearer}
use Rattle.bloom.specs.declared.hash.Reach.{Reach}
use Rattle.reach_filter.specs.fill.Sieve.{Sieve}
use Rattle.walk.specs.declared.node.Task.{Task}
use Rattle.walk.specs.node.States.{OnWires, Supplied}

pub supplied : (entries : List Entry) (task : Task) (bits : List ℕ) (reach : Reach) → OnWires entries
    → Sieve bits reach (entry_gates entries) task.controls task.wanted task.outputs task.free → Supplied entries task bits reach
supplied entries task bits reach known sieve = record { known = known; sieve = sieve }

module _ (P : Problem) where
  -- nothing costs less than 0
  pub none_below : Dearer P 0
  none_below = record { cost_least = λ a m h. omega arith }
