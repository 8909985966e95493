use native.Mathlib.Omega.{arith}
use Rattle.text.proofs.pieces.Pieces.{line_in_front, refused_short}
use Rattle.text.proofs.refused_line.Goals as goal

pub returns-clause-out_after : goal.returns-clause-out_after
returns-clause-out_after c = line_in_front c.put_refused.ensures (omega (arith, refused_short c.args.code))
