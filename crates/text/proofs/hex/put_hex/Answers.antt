use Rattle.std.proofs.Common.{sym, ◌∙◌, arith, ◌+◌, ◌*◌}
use Rattle.std.proofs.lemmas.List.{length-set}
use Rattle.text.proofs.pieces.Pieces.{hex_more, hex_done, hex_length}
use Rattle.text.proofs.hex.put_hex.Goals as goal

pub loop-k-preserved : goal.loop-k-preserved
loop-k-preserved c = record {
  kept = simp length-set c.loop-k.invariant.kept;
  left = rw (c.hex_digit-high.ensures, c.hex_digit-low.ensures)
      (hex_more c.loop-k.out c.args.bytes.now c.args.i c.loop-k.k (omega arith) ∙ c.loop-k.invariant.left);
}

pub returns : goal.returns
returns c = record {
  bytes = sym (hex_done c.loop-k.out c.args.bytes.now (c.args.i + 2 * c.loop-k.k) c.loop-k.k (omega arith)) ∙ c.loop-k.invariant.left;
  size = omega (arith, hex_length c.args.bytes.now);
}
