-- The word, the sign, the number and a line feed, each written after the last.
use mathlib.Core.Path.{subst}
use native.Mathlib.Omega.{arith}
use lib.IntN.{ℤ}
use mir.Syntax.{w32}
use mir.Val.{to_z, of_z}
use mir.ValLaws.{to_z-of_z}
use Rattle.text.specs.pieces.Writing.{Wrote}
use Rattle.text.proofs.pieces.Pieces.{more, decimal_short}
use Rattle.printed.specs.differences.Differences.{change_line}
use Rattle.printed.proofs.differences.Short.{sign_short}
use Rattle.printed.proofs.differences.put_change.Goals as goal

pub put_decimal-c-requires : goal.put_decimal-c-requires
put_decimal-c-requires c = omega (arith, sign_short (to_z w32 (of_z w32 c.args.difference)))

pub put-requires : goal.put-requires
put-requires c = omega (arith, sign_short (to_z w32 (of_z w32 c.args.difference)), decimal_short c.distance.result)

pub returns : goal.returns
unfolding change_line
returns c =
    subst (λ (z : ℤ). Wrote c.args.out.now 0 (change_line z) c.put.new.out c.put.result) (to_z-of_z w32 c.args.difference c.ranges.difference)
    (rw (← c.distance.ensures) (more c.put_text-a.ensures (more c.put_sign-b.ensures (more c.put_decimal-c.ensures c.put.ensures))))
