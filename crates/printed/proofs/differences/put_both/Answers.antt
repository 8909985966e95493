-- The difference and both lines, each written after the last.
use mathlib.Core.Path.{◌∙◌}
use native.Mathlib.Omega.{arith}
use mir.Syntax.{w32}
use mir.Val.{to_z, of_z}
use mir.ValLaws.{to_z-of_z}
use Rattle.text.specs.pieces.Writing.{Wrote}
use Rattle.text.proofs.pieces.Pieces.{more, line_size, line_in_front, found_short}
use Rattle.printed.specs.differences.Differences.{both_lines}
use Rattle.printed.proofs.differences.Short.{change_short, both_short}
use Rattle.printed.proofs.differences.put_both.Goals as goal

pub put_found-b-requires-clause-i_in_bounds : goal.put_found-b-requires-clause-i_in_bounds
put_found-b-requires-clause-i_in_bounds c = omega (arith, change_short (to_z w32 (of_z w32 c.cost_difference.result)), c.requires.in_bounds)

pub put_found-requires-clause-i_in_bounds : goal.put_found-requires-clause-i_in_bounds
put_found-requires-clause-i_in_bounds c = omega (arith, change_short (to_z w32 (of_z w32 c.cost_difference.result)), found_short c.args.m c.args.circuit.now c.requires.circuit_len_bound, c.requires.in_bounds)

pub returns : goal.returns
unfolding both_lines
returns c =
    let w : Wrote c.args.out.now 0 (both_lines c.args.m c.args.circuit.now c.args.k c.args.other.now) c.put_found.new.out c.put_found.result
    = rw (← (to_z-of_z w32 c.cost_difference.result (record { sfits = c.cost_difference.type_inv }) ∙ c.cost_difference.ensures))
    (more c.put_change-a.ensures (more c.put_found-b.ensures c.put_found.ensures)) in
    let short = both_short c.args.m c.args.circuit.now c.args.k c.args.other.now c.requires.circuit_len_bound c.requires.other_len_bound in
    record { value = line_size w; out_after = line_in_front w (omega (arith, short, c.requires.in_bounds)) }
