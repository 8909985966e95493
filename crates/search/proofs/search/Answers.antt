-- A rule broken, nothing found, or the first good choice, told with its measures.
use mathlib.Core.Path.{◌≡◌, sym, ap, ◌∙◌}
use borrow.Author.Rules.{rules}
use lib.ListN.{length}
use Rattle.logic.specs.Answers.{Answer, refused}
use Rattle.std.proofs.Common.{Some}
use Rattle.problem.specs.order.View.{view}
use Rattle.circuit.specs.measures.Measures.{measures_of}
use Rattle.record.specs.job_fields.Jobs.{price_of, duration_of}
use Rattle.record.specs.Answers.{number}
use Rattle.record.specs.pair_codes.Codes.{search_code}
use Rattle.outcomes.specs.Outcomes.{Found, own_set, search_of, reported, written}
use Rattle.outcomes.specs.Inner.{told_of}
use Rattle.outcomes.proofs.Facts.{code_parts}
use Rattle.outcomes.proofs.Answer.{refused_is, none_is, told_is}
use Rattle.search.proofs.search.Goals as goal
use Rattle.search.proofs.search.Goals.{In_err-check_search, In_ok-check_search, In_err-best, After-tell}

-- what the checks let through
kept : (c : In_ok-check_search) → search_code c.args.job.now (length c.args.answer.now) ≡ 0
kept c = sym c.in_ok-check_search.ensures

-- what the search answers, on each way out
refusal : (c : In_err-check_search) → search_of c.args.job.now (length c.args.answer.now) ≡ refused (number c.in_err-check_search.field-0.0)
unfolding search_of
refusal c = refused_is (own_set c.args.job.now) c.args.job.now _ c.in_err-check_search.field-0.0 c.in_err-check_search.ensures

nothing : (c : In_err-best) → search_of c.args.job.now (length c.args.answer.now) ≡ refused (number c.in_err-best.field-0.0)
unfolding search_of
nothing c =
    none_is (own_set c.args.job.now) c.args.job.now _ (sym c.in_ok-check_search.ensures) (sym (ap view c.in_err-best.ensures.err.0) ∙ c.first_good.ensures)
    ∙ sym (ap (λ e. refused (number e)) c.in_err-best.ensures.err.1)

found : (c : After-tell) → told_of c.args.job.now c.measures_of-measures.result (view (Some c.in_ok-best.best)) ≡ search_of c.args.job.now (length c.args.answer.now)
unfolding search_of
found c =
    told_is (own_set c.args.job.now) c.args.job.now _ (sym c.in_ok-check_search.ensures) c.in_ok-best.best (sym (ap view c.in_ok-best.ensures.ok) ∙ c.first_good.ensures)
    c.measures_of-measures.result (c.measures_of-measures.ensures ∙ ap (measures_of (price_of c.args.job.now) (duration_of c.args.job.now)) c.gates.ensures)

pub first_good-requires : goal.first_good-requires
first_good-requires c = (code_parts c.args.job.now (length c.args.answer.now) (kept c)).0

pub tell-requires : goal.tell-requires
tell-requires c = (code_parts c.args.job.now (length c.args.answer.now) (kept (goal.at.tell-requires c).In_ok-check_search)).1

pub returns-in_err-check_search-clause-result_value : goal.returns-in_err-check_search-clause-result_value
returns-in_err-check_search-clause-result_value c = rw (ap reported (refusal (goal.at.returns-in_err-check_search-clause-result_value c).In_err-check_search)) (search rules)

pub returns-in_err-check_search-clause-answer_after : goal.returns-in_err-check_search-clause-answer_after
returns-in_err-check_search-clause-answer_after c =
    sym (ap (λ (o : Answer Found). written o c.args.answer.now) (refusal (goal.at.returns-in_err-check_search-clause-answer_after c).In_err-check_search))

pub returns-in_err-best-clause-result_value : goal.returns-in_err-best-clause-result_value
returns-in_err-best-clause-result_value c = rw (ap reported (nothing (goal.at.returns-in_err-best-clause-result_value c).In_err-best)) (search rules)

pub returns-in_err-best-clause-answer_after : goal.returns-in_err-best-clause-answer_after
returns-in_err-best-clause-answer_after c =
    sym (ap (λ (o : Answer Found). written o c.args.answer.now) (nothing (goal.at.returns-in_err-best-clause-answer_after c).In_err-best))

pub returns-clause-result_value : goal.returns-clause-result_value
returns-clause-result_value c = c.tell.ensures.result_value ∙ ap reported (found (goal.at.returns-clause-result_value c).After-tell)

pub returns-clause-answer_after : goal.returns-clause-answer_after
returns-clause-answer_after c =
    c.tell.ensures.answer_after ∙ ap (λ (o : Answer Found). written o c.args.answer.now) (found (goal.at.returns-clause-answer_after c).After-tell)
