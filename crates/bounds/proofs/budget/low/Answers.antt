use mathlib.Core.Path.{◌∙◌, ap}
use Prim.Native.Nat.{min, ◌≤◌}
use native.Mathlib.Omega.{arith}
use Rattle.problem.specs.declared.Entry.{Entry}
use Rattle.bounds.proofs.budget.Afford.{least_turn, all_passed}
use Rattle.bounds.proofs.budget.low.Goals as goal

pub loop-entry-preserved : goal.loop-entry-preserved
loop-entry-preserved c = (
  omega arith,
  least_turn (λ (e : Entry). e.price) c.args.entries.now _ c.loop-entry.least _ _ c.loop-entry-test.true
      (c.lesser-least.ensures ∙ ap (min c.loop-entry.least) c.wide.ensures) c.loop-entry.invariant.1,
)

pub returns-clause-each : goal.returns-clause-each
returns-clause-each c = all_passed (λ (e : Entry). c.loop-entry.least ≤ e.price) c.args.entries.now _ c.loop-entry-test.false c.loop-entry.invariant.1
