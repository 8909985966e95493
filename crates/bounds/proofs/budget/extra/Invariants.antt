-- The invariant: `least` is at most the price of each heavy gate passed.
use Rattle.std.proofs.Common.{◌≤◌, take}
use Rattle.std.specs.List.{All}
use Rattle.logic.specs.Rules.{pick}
use Rattle.problem.specs.declared.Entry.{Entry}
use Rattle.bounds.specs.budget.Heavy.{heavy}
use Rattle.bounds.proofs.budget.extra.Given as goal

abbrev pub invariant-loop-entry : goal.invariant-loop-entry
invariant-loop-entry l = (l.least ≤ 255) × All (λ (e : Entry). l.least ≤ pick (heavy e.gate) e.price 255) (take l.entry-index l.entries)
