use Prim.Native.Nat.{◌/◌}
use native.Mathlib.Omega.{arith}
use Rattle.outputs.proofs.products.Tables.{own_lt, next_read}
use Rattle.outputs.proofs.product_step.next_column.Goals as goal

pub bounds-table-w : goal.bounds-table-w
bounds-table-w c = rw c.from-w.ensures (omega (arith, own_lt (c.args.g / 32) c.requires.g_bound))

pub returns : goal.returns
returns c k t cs hk hg hl ht = rw (c.from-w.ensures, c.from.ensures) (next_read k c.args.g hk hg t cs c.args.table.now hl ht)
