use Rattle.std.proofs.Common.{true, false, ◌+◌, sym, ◌∙◌}
use native.Mathlib.Omega.{arith}
use Rattle.logic.proofs.Rest.{part}
use Rattle.revlib_reader.proofs.gate_words.Letters.{different_turn}
use Rattle.revlib_reader.proofs.gate_words.different.Goals as goal

pub returns-then-is_in : goal.returns-then-is_in
returns-then-is_in c =
    let e = rw (part c.args.list.now (c.loop-i.i + 1)) at (sym c.is_in.ensures ∙ c.if-is_in.true) in
    sym (different_turn c.args.list.now c.loop-i.i (omega arith) true e) ∙ c.loop-i.invariant

pub loop-i-preserved : goal.loop-i-preserved
loop-i-preserved c =
    let e = rw (part c.args.list.now (c.loop-i.i + 1)) at (sym c.is_in.ensures ∙ c.if-is_in.false) in
    sym (different_turn c.args.list.now c.loop-i.i (omega arith) false e) ∙ c.loop-i.invariant
