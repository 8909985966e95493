use Rattle.std.proofs.Common.{rules}
use mathlib.Core.Path.{◌∙◌}
use Prim.Native.Nat.{◌<◌}
use native.Mathlib.Omega.{arith}
use lib.ListN.{length-set}
use Rattle.bounds.proofs.budget.Afford.{all_passed}
use Rattle.solver.proofs.prospects.EachOnce.{Marked, marked_turn}
use Rattle.solver.proofs.prospects.listed.Goals as goal

pub loop-entry-preserved : goal.loop-entry-preserved
loop-entry-preserved c =
    let byte : c.from.result < 256 = search rules in
    let e = c.from.ensures in
    (length-set c.loop-entry.listed _ _ ∙ c.loop-entry.invariant.0, rw e (marked_turn c.args.entries.now _ _ c.loop-entry.listed c.loop-entry-test.true (omega arith) c.loop-entry.invariant.1))

pub returns : goal.returns
returns c = all_passed (Marked c.loop-entry.listed) c.args.entries.now _ c.loop-entry-test.false c.loop-entry.invariant.1
