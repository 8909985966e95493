use mathlib.Core.Bool.{true, false}
use mathlib.Core.Path.{sym, ◌∙◌}
use Prim.Native.Nat.{◌+◌}
use native.Mathlib.Omega.{arith}
use Rattle.logic.proofs.Rest.{part}
use Rattle.parity.proofs.permuting.Values.{distinct_turn, distinct_done}
use Rattle.parity.proofs.permuting.distinct.Goals as goal

pub returns-then-not-absent : goal.returns-then-not-absent
returns-then-not-absent c =
    let e = rw (part c.args.rows.now (c.loop-i.i + 1)) at (sym c.absent.ensures ∙ c.if-not-absent.true) in
    sym (distinct_turn c.args.rows.now c.loop-i.i false (omega arith) e) ∙ c.loop-i.invariant

pub loop-i-preserved : goal.loop-i-preserved
loop-i-preserved c =
    let e = rw (part c.args.rows.now (c.loop-i.i + 1)) at (sym c.absent.ensures ∙ c.if-not-absent.false) in
    sym (distinct_turn c.args.rows.now c.loop-i.i true (omega arith) e) ∙ c.loop-i.invariant

pub returns : goal.returns
returns c = sym (distinct_done c.args.rows.now c.loop-i.i (omega arith)) ∙ c.loop-i.invariant
