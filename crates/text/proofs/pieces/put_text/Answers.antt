use Rattle.std.proofs.Common.{refl, arith, ◌∙◌, ap, ◌+◌, ◌-◌, length}
use borrow.Rule.Slice.PartMut.{put_mid}
use Rattle.text.proofs.pieces.Pieces.{over_part}
use Rattle.text.proofs.pieces.put_text.Goals as goal

pub returns : goal.returns
returns c =
    let text = c.args.text.now in
    record {
      bytes = ap (put_mid c.args.i (c.args.i + length text - c.args.i) c.args.out.now) c.copy_from_slice.ensures.after
          ∙ over_part c.args.out.now text c.args.i (c.args.i + length text - c.args.i) (omega arith) (omega arith);
      size = refl;
    }
