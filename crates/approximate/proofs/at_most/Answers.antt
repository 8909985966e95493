use mathlib.Core.Path.{ap, ◌∙◌}
use Rattle.problem.specs.Problems.{first_good}
use Rattle.walk.specs.declared.node.Task.{Task}
use Rattle.near_misses.specs.near_offer.Loose.{loosened}
use Rattle.outcomes.specs.Outcomes.{own_set, problem_of}
use Rattle.outcomes.specs.Inner.{Tabled}
use Rattle.search.proofs.Posed.{Handed, in_range, limited, on_wires, posed}
use Rattle.approximate.proofs.Posed.{walked_first}
use Rattle.approximate.proofs.at_most.Goals as goal
use Rattle.approximate.proofs.at_most.Goals.{After-task_of}

-- what is handed over
handed : (c : After-task_of) → Handed c.args.job.now c.task_of.result c.entries.result.now
handed c = record { sound = c.requires; kept = rw c.entries.ensures c.own_stock-own.ensures.lawfuls; tasked = c.task_of.ensures }

pub run-requires-clause-fair : goal.run-requires-clause-fair
run-requires-clause-fair c = in_range (handed (goal.at.run-requires-clause-fair c).After-task_of)

pub run-requires-clause-known : goal.run-requires-clause-known
run-requires-clause-known c = on_wires (handed (goal.at.run-requires-clause-known c).After-task_of)

pub returns : goal.returns
returns c =
    let h = handed (goal.at.returns c).After-task_of in
    let t : Tabled (own_set c.args.job.now) c.entries.result.now = rw c.entries.ensures c.own_stock-own.ensures.tabled in
    c.run.ensures (problem_of c.args.job.now) (posed h t) (limited h t)
    ∙ ap (λ (u : Task). first_good (loosened u c.args.k (problem_of c.args.job.now))) c.task_of.ensures ∙ walked_first c.args.job.now c.requires c.args.k
