use Rattle.outputs.proofs.plan.Planned.{worth_size, worth_mends}
use Rattle.outputs.proofs.worth.worth.Goals as goal

pub returns-then-size-most : goal.returns-then-size-most
returns-then-size-most c k t cs hk hg hl ht hp = rw c.from-w.ensures (worth_size t cs c.args.n c.args.free c.args.g c.args.most c.requires.width c.requires.g_bound c.args.plan hp (rw c.from-w.ensures at c.if-size-most.true))

pub returns : goal.returns
returns c k t cs hk hg hl ht hp =
    rw (c.mends.ensures, c.from-w.ensures)
    (worth_mends t cs c.args.n c.args.free c.args.g c.args.most c.requires.width c.requires.g_bound c.args.plan hp
    (rw c.from-w.ensures at c.if-size-most.false) k c.args.table.now ht c.next_column-column.result (c.next_column-column.ensures k t cs hk hg hl ht))
