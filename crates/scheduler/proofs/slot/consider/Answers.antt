-- A list that fails the test leaves the incumbent; one that passes it is offered.
use Rattle.std.proofs.Common.{◌≡◌, refl, sym, ap, ◌∙◌, length, length-take-le, take, rules, arith}
use Rattle.problem.specs.order.Choices.{keep}
use Rattle.problem.specs.order.View.{view}
use Rattle.scheduler.proofs.slot.Trying.{passed_over, offered, mine}
use Rattle.scheduler.proofs.slot.consider.Goals as goal
use Rattle.scheduler.proofs.slot.consider.Goals.{Start}

-- the part of the path that is lent has as many gates as asked for
lent : (s : Start) → length (take s.args.len s.args.path) ≡ s.args.len
lent s =
    let l : length s.args.path ≡ 12 = search rules in
    length-take-le s.args.len s.args.path (omega (arith, s.requires))

pub returns-then-not-does_for : goal.returns-then-not-does_for
returns-then-not-does_for c =
    passed_over c.args.job.now (take c.args.len c.args.path) c.args.layout c.measures_of-m.result c.measures_of-m.ensures (view c.args.best)
    (sym c.does_for.ensures ∙ c.if-not-does_for.true)

pub returns : goal.returns
returns c =
    c.offer.ensures
    ∙ ap (keep (view c.args.best))
    (mine c.args.job.now c.args.path c.args.len c.args.layout c.measures_of-m.result c.measures_of-m.ensures (lent (goal.at.returns c).Start) _ refl refl refl refl refl)
    ∙ offered c.args.job.now (take c.args.len c.args.path) c.args.layout c.measures_of-m.result c.measures_of-m.ensures (view c.args.best)
    (sym c.does_for.ensures ∙ c.if-not-does_for.false)
