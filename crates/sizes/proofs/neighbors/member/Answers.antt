use Rattle.std.proofs.Common.{refl, arith, ◌∙◌, sym}
use Rattle.sizes.specs.permutations.Inner.{members}
use Rattle.sizes.proofs.neighbors.Digits.{scan_next, scan_over}
use Rattle.sizes.proofs.neighbors.member.Goals as goal
use Rattle.sizes.proofs.neighbors.member.Goals.{then-in_mask+else-ahead-eq0, else-in_mask}

pub loop-x-init : goal.loop-x-init
unfolding members
loop-x-init c = refl

pub loop-x-preserved : goal.loop-x-preserved
loop-x-preserved c =
    elim c.if-in_mask.branch [
      | then-in_mask+else-ahead-eq0 w ↦
          rw w.ahead-is
          (scan_next c.args.m c.loop-x.x c.loop-x.ahead c.loop-x-test.true (sym c.in_mask.ensures ∙ w.if-in_mask.true) (let h = w.if-ahead-eq0.false in omega arith)
          ∙ c.loop-x.invariant)
      | else-in_mask w ↦
          rw w.ahead-is
          (scan_over c.args.m c.loop-x.x c.loop-x.ahead c.loop-x-test.true (sym c.in_mask.ensures ∙ w.if-in_mask.false) ∙ c.loop-x.invariant)
    ]
