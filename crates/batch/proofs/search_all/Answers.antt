-- A rule broken, or every record searched for.
use mathlib.Core.Path.{sym, ap, ◌∙◌}
use lib.ListN.{length}
use Rattle.logic.specs.Answers.{answered}
use Rattle.batch.proofs.cells.Codes.{rooms, refused_with, searching}
use Rattle.batch.proofs.search_all.Goals as goal
use Rattle.batch.proofs.search_all.Goals.{In_ok-check_batch}
use borrow.Author.Rules.{rules}
use Rattle.batch.specs.cells.Batches.{batch_code}
use mathlib.Core.Path.{◌≡◌}

-- what the checks let through
kept : (c : In_ok-check_batch) → batch_code c.args.jobs.now (length c.args.answers.now) (length c.args.statuses.now) ≡ 0
kept c = sym c.in_ok-check_batch.ensures

pub returns-in_err-check_batch-clause-answers_after : goal.returns-in_err-check_batch-clause-answers_after
returns-in_err-check_batch-clause-answers_after c =
    (refused_with c.args.jobs.now c.args.answers.now c.args.statuses.now c.in_err-check_batch.field-0.0 c.in_err-check_batch.ensures).1.0

pub returns-in_err-check_batch-clause-statuses_after : goal.returns-in_err-check_batch-clause-statuses_after
returns-in_err-check_batch-clause-statuses_after c =
    (refused_with c.args.jobs.now c.args.answers.now c.args.statuses.now c.in_err-check_batch.field-0.0 c.in_err-check_batch.ensures).1.1

pub returns-in_err-check_batch-clause-result_value : goal.returns-in_err-check_batch-clause-result_value
returns-in_err-check_batch-clause-result_value c =
    let r = refused_with c.args.jobs.now c.args.answers.now c.args.statuses.now c.in_err-check_batch.field-0.0 c.in_err-check_batch.ensures in
    rw (sym r.0) (search rules)

pub search_each-requires-clause-jobs_in_bounds : goal.search_each-requires-clause-jobs_in_bounds
search_each-requires-clause-jobs_in_bounds c = (rooms c.args.jobs.now (length c.args.answers.now) (length c.args.statuses.now) (kept (goal.at.search_each-requires-clause-jobs_in_bounds c).In_ok-check_batch)).0

pub search_each-requires-clause-jobs_in_bounds_2 : goal.search_each-requires-clause-jobs_in_bounds_2
search_each-requires-clause-jobs_in_bounds_2 c = (rooms c.args.jobs.now (length c.args.answers.now) (length c.args.statuses.now) (kept (goal.at.search_each-requires-clause-jobs_in_bounds_2 c).In_ok-check_batch)).1

pub returns-clause-statuses_after : goal.returns-clause-statuses_after
returns-clause-statuses_after c =
    let r
    = searching c.args.jobs.now c.args.answers.now c.args.statuses.now (kept (goal.at.returns-clause-statuses_after c).In_ok-check_batch) in c.search_each.ensures.statuses_after ∙ r.1.1

pub returns-clause-result_value : goal.returns-clause-result_value
returns-clause-result_value c =
    let r
    = searching c.args.jobs.now c.args.answers.now c.args.statuses.now (kept (goal.at.returns-clause-result_value c).In_ok-check_batch) in ap answered c.cut_off.ensures.count_value ∙ r.0

pub returns-clause-answers_after : goal.returns-clause-answers_after
returns-clause-answers_after c =
    let r
    = searching c.args.jobs.now c.args.answers.now c.args.statuses.now (kept (goal.at.returns-clause-answers_after c).In_ok-check_batch) in c.search_each.ensures.answers_after ∙ r.1.0
