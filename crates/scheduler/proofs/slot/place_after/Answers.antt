-- The numbers that the odometer is given are those of the job's problem.
use mathlib.Core.Path.{◌≡◌, sym, ap₂, subst, ◌∙◌}
use Prim.Native.Nat.{ℕ}
use native.Mathlib.Omega.{arith}
use lib.ListN.{length}
use Rattle.gate.specs.Gates.{gates_for}
use Rattle.table.specs.layouts.Layouts.{Width, layouts_for}
use Rattle.record.specs.job_fields.Jobs.{most_controls, data_wires, wires, free_layout}
use Rattle.record.proofs.Kept.{sound_job}
use Rattle.outcomes.specs.Outcomes.{problem_over, problem_of}
use Rattle.scheduler.proofs.slot.Counts.{shape, gates_few, layouts_few}
use Rattle.scheduler.proofs.slot.place_after.Goals as goal
use Rattle.scheduler.proofs.slot.place_after.Goals.{After-gate_count-gates, After-layout_count-layouts}

gates_are : (c : After-gate_count-gates)
    → (c.gate_count-gates.result ≡ length (gates_for (most_controls c.args.job.now) (wires c.args.job.now)))
gates_are c =
    c.gate_count-gates.ensures ∙ ap₂ (λ (k w : ℕ). length (gates_for k w)) c.most_controls.ensures c.wires.ensures.value

layouts-are : (c : After-layout_count-layouts)
    → (c.layout_count-layouts.result ≡ length (layouts_for (data_wires c.args.job.now) (free_layout c.args.job.now)))
layouts-are c =
    c.layout_count-layouts.ensures ∙ ap₂ (λ (n f : ℕ). length (layouts_for n f)) c.data_wires.ensures.value c.free_layout.ensures

pub gate_count-gates-requires : goal.gate_count-gates-requires
gate_count-gates-requires c =
    let h = shape c.args.job.now c.requires.job_value in
    (rw c.most_controls.ensures h.0, rw c.wires.ensures.value h.1)

pub layout_count-layouts-requires : goal.layout_count-layouts-requires
layout_count-layouts-requires c = subst Width (sym c.data_wires.ensures.value) (sound_job c.args.job.now c.requires.job_value).width

pub advance-requires-clause-len_bound : goal.advance-requires-clause-len_bound
advance-requires-clause-len_bound c =
    let e = gates_are (goal.at.advance-requires-clause-len_bound c).After-gate_count-gates in
    let f = layouts-are (goal.at.advance-requires-clause-len_bound c).After-layout_count-layouts in
    let q = gates_few c.args.job.now c.requires.job_value in
    let r = layouts_few c.args.job.now c.requires.job_value in
    let q₀ = q.0 in
    let q₁ = q.1 in
    let r₀ = r.0 in
    let r₁ = r.1 in (c.requires.len_bound, omega (arith, c.gate_limit.ensures, (sound_job c.args.job.now c.requires.job_value).limit))

pub advance-requires-clause-gates_nonzero : goal.advance-requires-clause-gates_nonzero
advance-requires-clause-gates_nonzero c =
    let e = gates_are (goal.at.advance-requires-clause-gates_nonzero c).After-gate_count-gates in
    let f = layouts-are (goal.at.advance-requires-clause-gates_nonzero c).After-layout_count-layouts in
    let q = gates_few c.args.job.now c.requires.job_value in
    let r = layouts_few c.args.job.now c.requires.job_value in
    let q₀ = q.0 in
    let q₁ = q.1 in
    let r₀ = r.0 in
    let r₁ = r.1 in ((omega arith, omega arith), (omega arith, omega arith))

pub returns-clause-result_value : goal.returns-clause-result_value
unfolding problem_over
returns-clause-result_value c = c.advance.ensures.result_value (problem_of c.args.job.now) (gates_are (goal.at.returns-clause-result_value c).After-gate_count-gates) (layouts-are (goal.at.returns-clause-result_value c).After-layout_count-layouts) c.gate_limit.ensures
