use mathlib.Core.Path.{◌∙◌, ap}
use Prim.Native.Nat.{ℕ, min, ◌≤◌}
use native.Mathlib.Omega.{arith}
use lib.ListN.{get_or}
use Rattle.logic.specs.Rules.{pick}
use Rattle.problem.specs.declared.Entry.{Entry}
use Rattle.bounds.specs.budget.Heavy.{heavy}
use Rattle.bounds.proofs.budget.Afford.{least_turn, all_passed, extra_least}
use Rattle.bounds.proofs.budget.extra.Goals as goal

abbrev heavy_price : Entry → ℕ
heavy_price e = pick (heavy e.gate) e.price 255

pub loop-entry-preserved : goal.loop-entry-preserved
loop-entry-preserved c = (
  omega arith,
  least_turn heavy_price c.args.entries.now _ c.loop-entry.least _ _ c.loop-entry-test.true
      (c.lesser-least.ensures ∙ ap (min c.loop-entry.least) c.heavy_price.ensures.value) c.loop-entry.invariant.1,
)

pub returns-clause-each : goal.returns-clause-each
returns-clause-each c =
    let passed = all_passed (λ (e : Entry). c.loop-entry.least ≤ heavy_price e) c.args.entries.now _ c.loop-entry-test.false c.loop-entry.invariant.1 in
    rw c.above.ensures λ k d h. extra_least (heavy (get_or c.args.entries.now k d).gate) c.args.low c.loop-entry.least _ (c.requires k d h) (passed k d h)
