-- The loop rises through the costs. Invariant: nothing good costs less than the one at hand, since the searches before it failed.
use Rattle.std.proofs.Math.Option.{some}
use Rattle.problem.specs.Problems.{Problem}
use Rattle.problem.specs.Inner.{Dearer, Shortest}
use Rattle.walk.specs.node.States.{Posed, Bounded, Limited}
use Rattle.solver.proofs.deepening.cheaper.Given as goal

abbrev pub invariant-loop-c : goal.invariant-loop-c
invariant-loop-c g l = (P : Problem) → Posed P l.task l.entries → Bounded P l.least → Limited P l.task
    → Shortest P P.most_cost (some (g.H.Incumbent.stands_for l.held)) (g.H.Incumbent.stands_for l.held).gates → Dearer P l.fn.costs.from
    → Dearer P l.c
