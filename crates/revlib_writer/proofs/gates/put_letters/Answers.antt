use Rattle.std.proofs.Common.{ap, length, arith}
use Rattle.revlib_writer.proofs.gates.Lines.{gate_line_size, letters_first, letters_next, letters_last, owed_all, owed_less, owed_none, owed_room}
use Rattle.revlib_writer.proofs.gates.put_letters.Goals as goal

pub put_text-at-requires : goal.put_text-at-requires
put_text-at-requires c = let h = c.requires.in_bounds in omega (arith, gate_line_size c.args.letters.now)

pub loop-x-init : goal.loop-x-init
loop-x-init c = owed_less owed_all c.put_text-at.ensures _ (letters_first c.args.letters.now)

pub put_text-at-requires-in-loop-x : goal.put_text-at-requires-in-loop-x
put_text-at-requires-in-loop-x c =
    let e = ap length (letters_next c.args.letters.now c.loop-x.x-index (omega arith)) in
    omega (arith, owed_room c.loop-x.invariant c.requires.in_bounds)

pub loop-x-preserved : goal.loop-x-preserved
loop-x-preserved c = owed_less c.loop-x.invariant c.put_text-at-in-loop-x.ensures _ (letters_next c.args.letters.now c.loop-x.x-index (omega arith))

pub put_text-requires : goal.put_text-requires
put_text-requires c =
    let e = ap length (letters_last c.args.letters.now c.loop-x.x-index (omega arith)) in
    omega (arith, owed_room c.loop-x.invariant c.requires.in_bounds)

pub returns : goal.returns
returns c = owed_none c.loop-x.invariant c.put_text.ensures (letters_last c.args.letters.now c.loop-x.x-index (omega arith))
