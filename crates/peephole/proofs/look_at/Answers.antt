-- The search answers the window's job: a refusal offers nothing, and a circuit its gates where they are cheaper.
use mathlib.Core.Path.{◌≡◌, sym, ap, ◌∙◌}
use mathlib.Core.List.{List}
use Prim.Native.Nat.{ℕ, ◌+◌, ◌-◌, ◌^◌, ◌≤◌}
use native.Mathlib.Omega.{arith}
use lib.ListN.{take, drop}
use lib.Dec.{ltb}
use borrow.Author.Tests.{lt-ltb, le-ltb}
use mathlib.Core.Option.{none, some}
use Rattle.logic.specs.Rules.{pick}
use Rattle.logic.specs.Answers.{answered}
use Rattle.circuit.specs.declared.Weights.{Weights}
use Rattle.circuit.specs.Measure.{weight_of, cost}
use Rattle.outcomes.specs.Outcomes.{search_of}
use Rattle.outcomes.proofs.Told.{when_refused, when_found}
use Rattle.peephole.specs.windows.Windows.{weights, window_job, better}
use Rattle.peephole.proofs.windows.Scans.{nothing_offered, offer_long, is_offered}
use Rattle.peephole.specs.declared.windows.Prices.{Prices}
use Rattle.peephole.specs.Inner.{offered}
use Rattle.peephole.proofs.look_at.Goals as goal
use Rattle.peephole.proofs.look_at.Goals.{In-Ok}
use Rattle.record.specs.Answers.{number}

-- what is lent is the window's job
lent : (wires : ℕ) (prices : Prices) (gates job : List ℕ) (k : ℕ) → k ≡ 2 ^ wires → take (12 + 2 ^ wires) job ≡ window_job wires prices gates
    → take (12 + k) job ≡ window_job wires prices gates
lent wires prices gates job k e f = ap (λ (m : ℕ). take (12 + m) job) e ∙ f

-- a circuit was found, and its record stands at the front of the buffer
told : (c : In-Ok)
    → search_of (window_job c.args.wires c.args.prices c.args.gates.now) 15
    ≡ answered (record { bytes = take c.in-Ok.found.size c.search.new.answer; measures = c.in-Ok.found.measures })
told c =
    sym (ap (λ (j : List ℕ). search_of j 15) (lent c.args.wires c.args.prices c.args.gates.now c.window_job-job.result c.value_count-end.result
    c.value_count-end.ensures.value c.window_job-job.ensures))
    ∙ when_found (search_of _ 15) c.search.result c.in-Ok.found _ c.search.new.answer c.search.ensures.result_value
    c.in-Ok.is c.search.ensures.answer_after

pub overflow_sub-len : goal.overflow_sub-len
overflow_sub-len c =
    let h : 3 ≤ c.in-Ok.found.size =
    offer_long c.args.wires c.args.prices c.args.gates.now c.in-Ok.found.size c.in-Ok.found.measures c.search.new.answer (told (goal.at.overflow_sub-len c).In-Ok) in
    omega arith

pub returns-in-Err : goal.returns-in-Err
unfolding offered
returns-in-Err c =
    nothing_offered c.args.wires c.args.prices c.args.gates.now (number c.in-Err.field-0)
    (sym (ap (λ (j : List ℕ). search_of j 15) (lent c.args.wires c.args.prices c.args.gates.now c.window_job-job.result c.value_count-end.result c.value_count-end.ensures.value c.window_job-job.ensures)) ∙ when_refused (search_of _ 15) c.search.result c.in-Err.field-0 c.search.ensures.result_value c.in-Err.is)

-- what is offered, in the machine's numbers
asked : (c : In-Ok) → (limit : ℕ) → limit ≡ cost (weight_of (weights c.args.prices)) c.args.gates.now
    → pick (ltb c.in-Ok.found.measures.cost limit) (some (take (c.in-Ok.found.size - 3) (drop 3 c.search.new.answer))) none ≡ better c.args.wires c.args.prices c.args.gates.now
asked c limit e =
    is_offered c.args.wires c.args.prices c.args.gates.now c.in-Ok.found.size c.in-Ok.found.measures c.search.new.answer (told c) limit e

pub returns-then-found-cost : goal.returns-then-found-cost
unfolding offered
returns-then-found-cost c =
    let a = asked (goal.at.returns-then-found-cost c).In-Ok c.cost.result (c.cost.ensures ∙ ap (λ (w : Weights). cost (weight_of w) c.args.gates.now) c.from.ensures) in
    rw (lt-ltb c.in-Ok.found.measures.cost c.cost.result c.if-found-cost.true) at a

pub returns-else-found-cost : goal.returns-else-found-cost
unfolding offered
returns-else-found-cost c =
    let a = asked (goal.at.returns-else-found-cost c).In-Ok c.cost.result (c.cost.ensures ∙ ap (λ (w : Weights). cost (weight_of w) c.args.gates.now) c.from.ensures) in
    rw (le-ltb c.in-Ok.found.measures.cost c.cost.result c.if-found-cost.false) at a
