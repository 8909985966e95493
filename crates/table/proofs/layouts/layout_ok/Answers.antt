use borrow.Author.Tests.{eq-eqb, ne_eqb}
use Rattle.std.proofs.Common.{arith}
use Rattle.table.proofs.layouts.Named.{named_ok}
use Rattle.table.proofs.layouts.layout_ok.Goals as goal

pub returns-then-three : goal.returns-then-three
returns-then-three c = rw (← named_ok c.args.n c.args.p c.requires (omega arith), eq-eqb _ _ c.if-n-eq3.true, c.if-three.true)

pub returns-else-three : goal.returns-else-three
returns-else-three c = rw (← named_ok c.args.n c.args.p c.requires (omega arith), eq-eqb _ _ c.if-n-eq3.true, ne_eqb _ _ c.if-three.false)

pub returns-else-n-eq3 : goal.returns-else-n-eq3
returns-else-n-eq3 c = rw (← named_ok c.args.n c.args.p c.requires (omega arith), ne_eqb _ _ c.if-n-eq3.false)
