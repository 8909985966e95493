use mathlib.Core.Path.{◌≡◌, sym, ap}
use native.Mathlib.Omega.{arith}
use Rattle.bloom.specs.hash.Reach.{part_of}
use Rattle.bloom.proofs.hash.Sums.{part_same, part_one, part_two}
use Rattle.bloom.proofs.targets.part.Goals as goal

pub overflow_sub-rest : goal.overflow_sub-rest
overflow_sub-rest c =
    let e = c.word_at.ensures.value in
    omega (arith, part_one c.args.shares c.args.a 5 c.requires.0 (omega arith))

pub overflow_sub-result : goal.overflow_sub-result
overflow_sub-result c =
    let e = c.word_at.ensures.value in
    let f = c.word_at-else-a-b.ensures.value in
    omega (arith, part_two c.args.shares c.args.a c.args.b c.requires.0 c.requires.1 c.if-a-b.false)

pub returns-then-a-b : goal.returns-then-a-b
returns-then-a-b c =
    let e = c.word_at.ensures.value in
    let same = part_same c.args.shares c.args.a in
    let here : part_of c.args.shares c.args.a c.args.b ≡ part_of c.args.shares c.args.a c.args.a = ap (part_of c.args.shares c.args.a) (sym c.if-a-b.true) in
    omega (arith, part_one c.args.shares c.args.a 5 c.requires.0 (omega arith))

pub returns-else-a-b : goal.returns-else-a-b
returns-else-a-b c =
    let e = c.word_at.ensures.value in
    let f = c.word_at-else-a-b.ensures.value in
    omega (arith, part_two c.args.shares c.args.a c.args.b c.requires.0 c.requires.1 c.if-a-b.false)
