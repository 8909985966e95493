-- Four ways on: the next layout, the next list of the same length, the next length, and none.
use mathlib.Core.Path.{◌≡◌}
use native.Mathlib.Omega.{arith}
use borrow.Author.Rules.{rules}
use lib.ListN.{length}
use lib.Seq.{length-take-le}
use Rattle.scheduler.specs.candidates.Left.{digits_at}
use Rattle.scheduler.proofs.candidates.Advancing.{to_layout, to_list, to_length, to_end}
use Rattle.scheduler.proofs.candidates.advance.Goals as goal
use Rattle.scheduler.proofs.candidates.advance.Goals.{Start}

-- as many digits as gates
long : (s : Start) → length (digits_at s.args.at) ≡ s.args.at.len
long s =
    let l : length s.args.at.digits ≡ 12 = search rules in
    length-take-le s.args.at.len s.args.at.digits (omega (arith, s.requires.len_bound.0))

pub returns-then-next-layouts-clause-result_value : goal.returns-then-next-layouts-clause-result_value
returns-then-next-layouts-clause-result_value c = (λ P g l m. to_layout c.args.at c.args.gates c.args.layouts c.args.most P g l m c.from-next.result c.from-next.ensures c.if-next-layouts.true)

pub returns-then-not-over-clause-result_value : goal.returns-then-not-over-clause-result_value
returns-then-not-over-clause-result_value c =
    (λ P g l m.
    to_list c.args.at c.args.gates c.args.layouts c.args.most P g l m c.from-next.result c.from-next.ensures c.requires.gates_nonzero.1.0 c.if-next-layouts.false
    c.over.result c.over.ensures c.if-not-over.true _ c.bump-digits.ensures)

pub returns-then-len-most-clause-result_value : goal.returns-then-len-most-clause-result_value
returns-then-len-most-clause-result_value c =
    (λ P g l m.
    to_length c.args.at c.args.gates c.args.layouts c.args.most P g l m c.from-next.result c.from-next.ensures c.requires.gates_nonzero.1.0 c.if-next-layouts.false
    c.over.result c.over.ensures c.if-not-over.false (long (goal.at.returns-then-len-most-clause-result_value c).Start) c.requires.gates_nonzero.0.0 c.if-len-most.true c.requires.len_bound.1)

pub returns-clause-result_value : goal.returns-clause-result_value
returns-clause-result_value c =
    (λ P g l m.
    to_end c.args.at c.args.gates c.args.layouts c.args.most P g l m c.from-next.result c.from-next.ensures c.requires.gates_nonzero.1.0 c.if-next-layouts.false
    c.over.result c.over.ensures c.if-not-over.false (long (goal.at.returns-clause-result_value c).Start) c.if-len-most.false)
