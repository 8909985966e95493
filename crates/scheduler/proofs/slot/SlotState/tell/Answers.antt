-- The best circuit of all, or that there is none.
use Rattle.std.proofs.Common.{◌≡◌, refl, sym, ap, ◌∙◌, List, ℕ, Option, rules}
use Rattle.logic.specs.Answers.{Answer, refused}
use Rattle.circuit.specs.measures.Measures.{measures_of}
use Rattle.record.specs.job_fields.Jobs.{price_of, duration_of}
use Rattle.problem.specs.declared.order.Best.{Best}
use Rattle.problem.specs.declared.order.Held.{Held}
use Rattle.problem.specs.order.View.{view, viewed, held_choice}
use Rattle.outcomes.specs.Inner.{told_of}
use Rattle.outcomes.specs.Outcomes.{Found, own_set, outcome_of, reported, written}
use Rattle.scheduler.specs.declared.slot.Stage.{Stage}
use Rattle.scheduler.specs.slot.Slots.{result_of}
use Rattle.scheduler.specs.slot.View.{job_in, view_slot}
use Rattle.scheduler.proofs.slot.Slots.{finished_sound, seen, finished_stage}
use Rattle.scheduler.proofs.slot.Trying.{told_held}
use Rattle.scheduler.proofs.slot.SlotState.tell.Goals as goal
use Rattle.scheduler.proofs.slot.SlotState.tell.Goals.{Start, After-measures_of-measures}

-- the answer by what was held
held : (s : Start) → result_of (view_slot s.args.self.now) ≡ outcome_of (own_set (job_in s.args.self.now)) (job_in s.args.self.now) (viewed held_choice s.args.self.now.best)
held s = ap result_of (seen s.args.self.now Stage.Finished (finished_stage s.args.self.now s.requires.state_value))

nothing : (job : List ℕ) (b : Option Best) (e : Option Held) → b ≡ Rattle.std.proofs.Common.None → view b ≡ viewed held_choice e
    → outcome_of (own_set job) job (viewed held_choice e) ≡ refused 14
unfolding view
nothing job b e n is = rw (← is, n) refl

pub incumbent-requires : goal.incumbent-requires
incumbent-requires c = (finished_sound c.args.self.now (goal.at.incumbent-requires c).Start.requires.state_value).held_short

pub shared_ref_as_front-job : goal.shared_ref_as_front-job
shared_ref_as_front-job c = (finished_sound c.args.self.now c.requires.state_value).short

pub returns-in_err-best-clause-result_value : goal.returns-in_err-best-clause-result_value
returns-in_err-best-clause-result_value c =
    let n = c.in_err-best.ensures.err in
    let e = held (goal.at.returns-in_err-best-clause-result_value c).Start ∙ nothing _ c.incumbent.result c.args.self.now.best n.0 c.incumbent.ensures in
    let r = n.1 in rw e (search rules)

pub returns-in_err-best-clause-answer_after : goal.returns-in_err-best-clause-answer_after
returns-in_err-best-clause-answer_after c =
    let n = c.in_err-best.ensures.err in
    let e = held (goal.at.returns-in_err-best-clause-answer_after c).Start ∙ nothing _ c.incumbent.result c.args.self.now.best n.0 c.incumbent.ensures in
    sym (ap (λ (o : Answer Found). written o c.args.answer.now) e)

-- the circuit that was held, with its measures
circuit : (m : After-measures_of-measures) → told_of (job_in m.args.self.now) m.measures_of-measures.result (view (Rattle.std.proofs.Common.Some m.in_ok-best.best)) ≡ result_of (view_slot m.args.self.now)
circuit m =
    let o = m.in_ok-best.ensures.ok in
    told_held (job_in m.args.self.now) m.in_ok-best.best m.measures_of-measures.result (m.measures_of-measures.ensures ∙ ap (λ (l : List ℕ). measures_of (price_of (job_in m.args.self.now)) (duration_of (job_in m.args.self.now)) l) m.gates.ensures)
    ∙ ap (λ (b : Option Best). outcome_of (own_set (job_in m.args.self.now)) (job_in m.args.self.now) (view b)) (sym o)
    ∙ ap (outcome_of (own_set (job_in m.args.self.now)) (job_in m.args.self.now)) m.incumbent.ensures
    ∙ sym (ap result_of (seen m.args.self.now Stage.Finished (finished_stage m.args.self.now m.requires.state_value)))

pub returns-clause-result_value : goal.returns-clause-result_value
returns-clause-result_value c = c.tell.ensures.result_value ∙ ap reported (circuit (goal.at.returns-clause-result_value c).After-measures_of-measures)

pub returns-clause-answer_after : goal.returns-clause-answer_after
returns-clause-answer_after c =
    c.tell.ensures.answer_after ∙ ap (λ (o : Answer Found). written o c.args.answer.now) (circuit (goal.at.returns-clause-answer_after c).After-measures_of-measures)
