use Rattle.std.proofs.Common.{◌+◌, ap, map, length, length-append, drop, get_or, arith}
use Rattle.logic.proofs.Fold.{all_at}
use Rattle.gate.specs.Gates.{lawful}
use Rattle.revlib.specs.Grammar.{gate_line, body}
use Rattle.revlib.specs.Writing.{line_for}
use Rattle.revlib_writer.proofs.gates.Lines.{body_next, body_last, owed_less, owed_none, owed_room}
use Rattle.revlib_writer.proofs.gates.put_body.Goals as goal

pub put_line-at-requires-clause-b_value : goal.put_line-at-requires-clause-b_value
put_line-at-requires-clause-b_value c = all_at (lawful 2 5) c.args.gates.now c.loop-b.b-index 0 c.requires.gates_value (omega arith)

pub put_line-at-requires-clause-b_in_bounds : goal.put_line-at-requires-clause-b_in_bounds
put_line-at-requires-clause-b_in_bounds c =
    let e = ap length (body_next c.args.gates.now c.loop-b.b-index (omega arith)) in
    let l = length-append (gate_line (line_for (get_or c.args.gates.now c.loop-b.b-index 0))) (body (map line_for (drop (c.loop-b.b-index + 1) c.args.gates.now))) in
    omega (arith, owed_room c.loop-b.invariant c.requires.gates_in_bounds)

pub loop-b-preserved : goal.loop-b-preserved
loop-b-preserved c = owed_less c.loop-b.invariant c.put_line-at.ensures _ (body_next c.args.gates.now c.loop-b.b-index (omega arith))

pub put_text-requires : goal.put_text-requires
put_text-requires c =
    let e = ap length (body_last c.args.gates.now c.loop-b.b-index (omega arith)) in
    omega (arith, owed_room c.loop-b.invariant c.requires.gates_in_bounds)

pub returns : goal.returns
returns c = owed_none c.loop-b.invariant c.put_text.ensures (body_last c.args.gates.now c.loop-b.b-index (omega arith))
