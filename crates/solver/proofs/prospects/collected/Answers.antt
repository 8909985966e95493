use mathlib.Core.Path.{ap, ◌∙◌}
use native.Mathlib.Omega.{arith}
use lib.ListN.{length, length-set}
use Rattle.solver.proofs.prospects.EachOnce.{passed_turn, kept_turn}
use Rattle.solver.proofs.prospects.collected.Goals as goal
use Rattle.solver.proofs.prospects.collected.Goals.{then-listed-g, else-listed-g}

pub loop-g-preserved : goal.loop-g-preserved
loop-g-preserved c =
    let v = c.loop-g.invariant in
    let t = c.loop-g-test.true in
    elim c.if-listed-g.branch [
      | then-listed-g w ↦
          let k = w.count-is in (
            omega arith,
            ap length w.bytes-is ∙ length-set c.loop-g.bytes _ _ ∙ v.1,
            rw (w.bytes-is, w.count-is) (kept_turn c.args.listed c.loop-g.bytes c.loop-g.count c.loop-g.g v.2 (omega (arith, v.0, v.1))),
          )
      | else-listed-g w ↦
          let k = w.count-is in
          let f = w.if-listed-g.false in (
            omega arith,
            ap length w.bytes-is ∙ v.1,
            rw (w.bytes-is, w.count-is) (passed_turn c.args.listed c.loop-g.bytes c.loop-g.count c.loop-g.g v.2 f),
          )
    ]
