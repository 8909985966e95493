-- No search where parity rules every list out. Else what is handed to the solver poses the problem of the job and these gates.
use mathlib.Core.Path.{sym, subst, ◌∙◌}
use Rattle.problem.specs.order.View.{view}
use Rattle.outcomes.specs.Outcomes.{problem_over}
use Rattle.outcomes.specs.Inner.{Lawfuls}
use Rattle.outcomes.proofs.Answer.{odd_nothing}
use Rattle.search.proofs.Posed.{Handed, in_range, limited, on_wires, posed}
use Rattle.search.proofs.solve_among.Goals as goal
use Rattle.search.proofs.solve_among.Goals.{After-task_of}

-- what is handed over
handed : (c : After-task_of) → Handed c.args.job.now c.task_of.result c.args.entries.now
handed c = record { sound = c.requires.job_value; kept = c.requires.lawfuls; tasked = c.task_of.ensures }

pub returns-then-always_none : goal.returns-then-always_none
unfolding view
returns-then-always_none c = let odd = sym c.always_none.ensures ∙ c.if-always_none.true in (λ G t. sym (odd_nothing G c.args.job.now c.requires.job_value (subst (Lawfuls c.args.job.now) t.listed c.requires.lawfuls) odd))

pub solve-requires-clause-known : goal.solve-requires-clause-known
solve-requires-clause-known c = on_wires (handed (goal.at.solve-requires-clause-known c).After-task_of)

pub solve-requires-clause-fair : goal.solve-requires-clause-fair
solve-requires-clause-fair c = in_range (handed (goal.at.solve-requires-clause-fair c).After-task_of)

pub returns : goal.returns
returns c = let h = handed (goal.at.returns c).After-task_of in (λ G t. c.solve.ensures (problem_over G c.args.job.now) (posed h t) (limited h t))
