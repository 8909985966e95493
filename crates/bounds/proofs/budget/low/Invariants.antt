-- The invariant: `least` is at most the price of each entry passed.
use Rattle.std.proofs.Common.{◌≤◌, take}
use Rattle.std.specs.List.{All}
use Rattle.problem.specs.declared.Entry.{Entry}
use Rattle.bounds.proofs.budget.low.Given as goal

abbrev pub invariant-loop-entry : goal.invariant-loop-entry
invariant-loop-entry l = (l.least ≤ 255) × All (λ (e : Entry). l.least ≤ e.price) (take l.entry-index l.entries)
