use Prim.Native.Nat.{◌+◌, ◌≤◌}
use native.Mathlib.Omega.{arith}
use lib.ListN.{length, length-drop}
use Rattle.batch.proofs.cutting.Cutting.{rest_is, cut_stop, cut_done, cut_turn}
use Rattle.batch.proofs.cutting.cut_off.Goals as goal
use Rattle.batch.proofs.cutting.cut_off.Goals.{Else-size-eq0}

-- a record that is cut off lies within
within : (c : Else-size-eq0)
    → c.loop-count.end + c.record_size-size.result
    ≤ length c.args.jobs.now
within c =
    let f = rw (rest_is c.args.jobs.now c.loop-count.end) at c.record_size-size.ensures.upper_bound in
    let i = c.loop-count.invariant.0 in
    omega (arith, length-drop c.loop-count.end c.args.jobs.now)

pub returns-then-size-eq0-clause-end_value : goal.returns-then-size-eq0-clause-end_value
returns-then-size-eq0-clause-end_value c = let z = cut_stop c.args.jobs.now c.loop-count.count c.loop-count.end c.record_size-size.result c.record_size-size.ensures.value c.if-size-eq0.true in omega (arith, z.1, c.loop-count.invariant.1.1)

pub returns-then-size-eq0-clause-count_value : goal.returns-then-size-eq0-clause-count_value
returns-then-size-eq0-clause-count_value c = let z = cut_stop c.args.jobs.now c.loop-count.count c.loop-count.end c.record_size-size.result c.record_size-size.ensures.value c.if-size-eq0.true in omega (arith, z.0, c.loop-count.invariant.1.0)

pub loop-count-preserved : goal.loop-count-preserved
loop-count-preserved c =
    let t = cut_turn c.args.jobs.now c.loop-count.count c.loop-count.end c.record_size-size.result c.record_size-size.ensures.value c.loop-count-test.true c.if-size-eq0.false c.record_size-size.ensures.upper_bound in
    (within (goal.at.loop-count-preserved c).Else-size-eq0, (omega (arith, t.0, c.loop-count.invariant.1.0), omega (arith, t.1, c.loop-count.invariant.1.1)))

pub returns-clause-count_value : goal.returns-clause-count_value
returns-clause-count_value c =
    let h = c.loop-count-test.false in
    let z = cut_done c.args.jobs.now c.loop-count.count c.loop-count.end (omega arith) in omega (arith, z.0, c.loop-count.invariant.1.0)

pub returns-clause-end_value : goal.returns-clause-end_value
returns-clause-end_value c =
    let h = c.loop-count-test.false in
    let z = cut_done c.args.jobs.now c.loop-count.count c.loop-count.end (omega arith) in omega (arith, z.1, c.loop-count.invariant.1.1)
