use Rattle.std.proofs.Common.{ap, ap₂, ◌∙◌}
use Rattle.problem.specs.order.Choices as choices
use Rattle.problem.specs.order.View.{view}
use Rattle.problem.specs.Problems.{choice_of, good}
use Rattle.outcomes.specs.Outcomes.{problem_over, problem_of}
use Rattle.scheduler.specs.candidates.Left.{current}
use Rattle.scheduler.proofs.slot.attempt.Goals as goal

pub returns : goal.returns
unfolding current problem_over
returns c =
    let P = problem_of c.args.job.now in
    c.consider.ensures ∙ ap (choices.attempt (good P) (view c.args.best)) (ap₂ (choice_of P) c.path_at-path.ensures c.layout_for-layout.ensures)
