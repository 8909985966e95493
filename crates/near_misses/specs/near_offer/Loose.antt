-- The problem under which a choice may miss some wanted bits, as a test of a task's columns. No public contract cites this.
use Rattle.std.specs.Prelude.{List, ℕ}
use Rattle.circuit.specs.run.Inner.{columns_after}
use Rattle.columns.specs.Wanted.{start_columns}
use Rattle.problem.specs.Problems.{Problem}
use Rattle.walk.specs.declared.node.Task.{Task}
use Rattle.near_misses.specs.misses.Misses.{asking}
use Rattle.near_misses.specs.misses.Columns.{nearly}

-- the problem with up to k misses allowed
abbrev pub loosened : Task → ℕ → Problem → Problem
loosened task k P = asking (λ (p : ℕ) (l : List ℕ). nearly task.wanted task.outputs k (columns_after l start_columns) p) P
