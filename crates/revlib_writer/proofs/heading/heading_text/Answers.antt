use Rattle.std.proofs.Common.{◌≡◌, sym, arith}
use Rattle.revlib_writer.proofs.heading.Headings.{three_bare, three_more, four_bare, four_more}
use Rattle.revlib_writer.proofs.heading.heading_text.Goals as goal

pub returns-in-3-eq0-clause-value : goal.returns-in-3-eq0-clause-value
returns-in-3-eq0-clause-value c = let n : c.args.n ≡ 3 = omega arith in let m : c.args.m ≡ 0 = omega arith in rw (n, m) (sym three_bare)

pub returns-in-3-default-clause-value : goal.returns-in-3-default-clause-value
returns-in-3-default-clause-value c = let n : c.args.n ≡ 3 = omega arith in let m : c.args.m ≡ 1 = omega arith in rw (n, m) (sym three_more)

pub returns-in_default-eq0-clause-value : goal.returns-in_default-eq0-clause-value
returns-in_default-eq0-clause-value c = let n : c.args.n ≡ 4 = omega arith in let m : c.args.m ≡ 0 = omega arith in rw (n, m) (sym four_bare)

pub returns-in_default-clause-value : goal.returns-in_default-clause-value
returns-in_default-clause-value c = let n : c.args.n ≡ 4 = omega arith in let m : c.args.m ≡ 1 = omega arith in rw (n, m) (sym four_more)
