use Rattle.outputs.proofs.products.Tables.{idle_read}
use Rattle.outputs.proofs.product_step.idle.Goals as goal

pub returns : goal.returns
returns c k t cs hk hg ht = rw c.from.ensures (idle_read k c.args.g hk hg t cs c.args.table.now ht)
