use Rattle.std.proofs.Common.{arith}
use Rattle.text.proofs.pieces.Pieces.{line_in_front, found_short}
use Rattle.text.proofs.found_line.Goals as goal

pub returns-clause-out_after : goal.returns-clause-out_after
returns-clause-out_after c = line_in_front c.put_found.ensures (omega (arith, found_short c.args.m c.args.bytes.now c.requires.bytes_len_bound))
