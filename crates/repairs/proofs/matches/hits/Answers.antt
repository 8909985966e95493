use mathlib.Core.Path.{◌≡◌}
use native.Mathlib.Omega.{arith}
use Rattle.repairs.specs.matches.Inner.{hits_of}
use Rattle.repairs.proofs.matches.Joined.{turn}
use Rattle.repairs.proofs.matches.hits.Goals as goal

pub loop-i-preserved : goal.loop-i-preserved
loop-i-preserved c =
    turn c.args.ps c.args.a c.args.b c.args.c c.args.d c.loop-i.i c.loop-i.any _ _ _ _
    c.hit-in-loop-i-3.ensures c.hit-in-loop-i-2.ensures c.hit-in-loop-i.ensures c.hit.ensures c.loop-i.invariant

pub returns : goal.returns
unfolding hits_of
returns c =
    let e : c.loop-i.i ≡ 16 = omega arith in
    rw e at c.loop-i.invariant
