-- The gates are put over the front of the window, and what stands past it is moved down to their end.
use native.Mathlib.Omega.{arith}
use Rattle.text.specs.pieces.Writing.{over}
use Rattle.peephole.proofs.windows.Buffers.{put_and_closed}
use Rattle.peephole.proofs.listing.replace.Goals as goal

pub returns-clause-list_after : goal.returns-clause-list_after
unfolding over
returns-clause-list_after c =
    let few = c.requires.len_le_window in
    let long = c.put_text-to.auto.out in
    put_and_closed c.args.list.now c.args.gates.now c.put_text-to.new.out c.close_gap.new.list c.args.at c.args.window c.put_text-to.result
    c.requires.window_in_bounds (omega arith) c.put_text-to.ensures.bytes c.put_text-to.ensures.size c.close_gap.auto.list c.close_gap.ensures
