-- A rule broken, nothing found, or the first good choice, told with its measures.
use mathlib.Core.Path.{◌≡◌, sym, ap, ◌∙◌}
use borrow.Author.Rules.{rules}
use lib.ListN.{length}
use Rattle.logic.specs.Answers.{Answer, refused}
use Rattle.std.proofs.Common.{Some}
use Rattle.problem.specs.order.View.{view}
use Rattle.circuit.specs.measures.Measures.{measures_of}
use Rattle.library.specs.entries.Library.{price_in, duration_in}
use Rattle.record.specs.Answers.{number}
use Rattle.library.specs.calls.Calls.{set_in, search_with_code, search_with}
use Rattle.outcomes.specs.Outcomes.{Found, reported, written}
use Rattle.outcomes.specs.Inner.{told_of}
use Rattle.library.proofs.calls.Sound.{searchable}
use Rattle.outcomes.proofs.Answer.{refused_is, none_is, told_is}
use Rattle.library.proofs.search_with.Goals as goal
use Rattle.library.proofs.search_with.Goals.{In_err-check_search_with, In_ok-check_search_with, In_err-best, After-tell}

-- what the checks let through
kept : (c : In_ok-check_search_with) → search_with_code c.args.job.now c.args.library.now (length c.args.answer.now) ≡ 0
kept c = sym c.in_ok-check_search_with.ensures

-- what the search answers, on each way out
refusal : (c : In_err-check_search_with) → search_with c.args.job.now c.args.library.now (length c.args.answer.now) ≡ refused (number c.in_err-check_search_with.field-0.0)
unfolding search_with
refusal c = refused_is (set_in c.args.library.now) c.args.job.now _ c.in_err-check_search_with.field-0.0 c.in_err-check_search_with.ensures

nothing : (c : In_err-best) → search_with c.args.job.now c.args.library.now (length c.args.answer.now) ≡ refused (number c.in_err-best.field-0.0)
unfolding search_with
nothing c =
    none_is (set_in c.args.library.now) c.args.job.now _ (sym c.in_ok-check_search_with.ensures) (sym (ap view c.in_err-best.ensures.err.0) ∙ c.first_good.ensures)
    ∙ sym (ap (λ e. refused (number e)) c.in_err-best.ensures.err.1)

found : (c : After-tell) → told_of c.args.job.now c.measures_of-measures.result (view (Some c.in_ok-best.best)) ≡ search_with c.args.job.now c.args.library.now (length c.args.answer.now)
unfolding search_with
found c =
    told_is (set_in c.args.library.now) c.args.job.now _ (sym c.in_ok-check_search_with.ensures) c.in_ok-best.best (sym (ap view c.in_ok-best.ensures.ok) ∙ c.first_good.ensures)
    c.measures_of-measures.result (c.measures_of-measures.ensures ∙ ap (measures_of (price_in c.args.library.now) (duration_in c.args.library.now)) c.gates.ensures)

pub first_good-requires-clause-job_value : goal.first_good-requires-clause-job_value
first_good-requires-clause-job_value c = (searchable c.args.job.now c.args.library.now (length c.args.answer.now) (kept c)).job_sound_law

pub first_good-requires-clause-library_value : goal.first_good-requires-clause-library_value
first_good-requires-clause-library_value c = (searchable c.args.job.now c.args.library.now (length c.args.answer.now) (kept c)).library_sound_law

pub tell-requires : goal.tell-requires
tell-requires c =
    (searchable c.args.job.now c.args.library.now (length c.args.answer.now) (kept (goal.at.tell-requires c).In_ok-check_search_with)).wide

pub returns-in_err-check_search_with-clause-result_value : goal.returns-in_err-check_search_with-clause-result_value
returns-in_err-check_search_with-clause-result_value c = rw (ap reported (refusal (goal.at.returns-in_err-check_search_with-clause-result_value c).In_err-check_search_with)) (search rules)

pub returns-in_err-check_search_with-clause-answer_after : goal.returns-in_err-check_search_with-clause-answer_after
returns-in_err-check_search_with-clause-answer_after c =
    sym (ap (λ (o : Answer Found). written o c.args.answer.now) (refusal (goal.at.returns-in_err-check_search_with-clause-answer_after c).In_err-check_search_with))

pub returns-in_err-best-clause-result_value : goal.returns-in_err-best-clause-result_value
returns-in_err-best-clause-result_value c = rw (ap reported (nothing (goal.at.returns-in_err-best-clause-result_value c).In_err-best)) (search rules)

pub returns-in_err-best-clause-answer_after : goal.returns-in_err-best-clause-answer_after
returns-in_err-best-clause-answer_after c =
    sym (ap (λ (o : Answer Found). written o c.args.answer.now) (nothing (goal.at.returns-in_err-best-clause-answer_after c).In_err-best))

pub returns-clause-result_value : goal.returns-clause-result_value
returns-clause-result_value c = c.tell.ensures.result_value ∙ ap reported (found (goal.at.returns-clause-result_value c).After-tell)

pub returns-clause-answer_after : goal.returns-clause-answer_after
returns-clause-answer_after c =
    c.tell.ensures.answer_after ∙ ap (λ (o : Answer Found). written o c.args.answer.now) (found (goal.at.returns-clause-answer_after c).After-tell)
