use Rattle.std.proofs.Common.{◌≡◌, sym, ◌∙◌, arith, ◌-◌, ◌+◌, ◌*◌, length, drop, length-drop}
use Rattle.logic.proofs.Fold.{back_more, back_done}
use Rattle.columns.specs.Wanted.{shift_in, column_of, row_bit}
use Rattle.columns.proofs.Bits.{column_fits}
use Rattle.columns.proofs.table_columns.column.Goals as goal

pub loop-x-init : goal.loop-x-init
loop-x-init c = record {
  fits = omega arith;
  is = sym (back_done (shift_in (row_bit c.args.care c.args.j)) c.args.rows.now (length c.args.rows.now) 0 (omega arith));
}

pub loop-x-preserved : goal.loop-x-preserved
loop-x-preserved c =
    let rows = c.args.rows.now in
    let f = row_bit c.args.care c.args.j in
    let e : c.loop-x.x - 1 + 1 ≡ c.loop-x.x = omega arith in
    let more = rw e at (back_more (shift_in f) rows (c.loop-x.x - 1) 0 0 (omega arith)) in
    let here : c.row_bit.result + 2 * c.loop-x.bits ≡ column_of f (drop (c.loop-x.x - 1) rows) =
    (λ i. c.row_bit.ensures.value i + 2 * c.loop-x.invariant.is i) ∙ sym more in
    let small = column_fits c.args.care c.args.j (drop (c.loop-x.x - 1) rows) (omega (arith, length-drop (c.loop-x.x - 1) rows)) in
    record { fits = omega (arith, here, small); is = here }
