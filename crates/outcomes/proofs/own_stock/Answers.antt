-- The entries are those of the job's own gates.
use mathlib.Core.Path.{◌≡◌, refl, sym, ap, ap₂, ◌∙◌, subst}
use mathlib.Core.List.{List, [], ◌∷◌, map}
use Prim.Native.Nat.{ℕ, ◌≤◌}
use lib.ListN.{length, take}
use Rattle.std.proofs.lemmas.List.Elements.{All-map}
use Rattle.gate.specs.Gates.{gates_for}
use Rattle.gate.proofs.Tables.{gate_is}
use Rattle.record.specs.job_fields.Jobs.{longer, most_controls, wires, prices, durations, price_of, duration_of}
use Rattle.record.proofs.Kept.{wires_within}
use Rattle.record.proofs.job_fields.Widths.{two_or_three}
use Rattle.circuit.specs.declared.Weights.{Weights}
use Rattle.problem.specs.declared.Entry.{Entry}
use Rattle.problem.specs.Entries.{entry_gates}
use Rattle.outcomes.specs.Outcomes.{own_set}
use Rattle.outcomes.specs.Inner.{Lawfuls, Tabled, weighed}
use Rattle.outcomes.proofs.own_stock.Goals as goal
use Rattle.outcomes.proofs.own_stock.Goals.{After-gate_table-gates, After-weigh, After-wires-wires}

-- the numbers of controls and wires that a job can have
fits : (c : After-wires-wires)
    → ((2 ≤ c.most_controls-most.result) × (c.most_controls-most.result ≤ 3)) × ((3 ≤ c.wires-wires.result) × (c.wires-wires.result ≤ 5))
fits c =
    (rw c.most_controls-most.ensures (two_or_three (longer c.args.job.now)), rw c.wires-wires.ensures.value (wires_within c.args.job.now c.requires))

-- the part of the table that is lent is the job's gates
listed : (c : After-gate_table-gates)
    → (take c.gate_count-count.result c.gate_table-gates.result ≡ gates_for (most_controls c.args.job.now) (wires c.args.job.now))
listed c =
    ap (λ (k : ℕ). take k c.gate_table-gates.result) c.gate_count-count.ensures
    ∙ c.gate_table-gates.ensures
    ∙ ap₂ gates_for c.most_controls-most.ensures c.wires-wires.ensures.value

abbrev own : List ℕ → List ℕ
own job = gates_for (most_controls job) (wires job)

abbrev entered : List ℕ → List Entry
entered job = map (weighed (prices job) (durations job)) (own job)

-- the entries in use are those of the job's gates
entered_all : (c : After-weigh) → take c.gate_count-count.result c.gate_table-gates.result ≡ own c.args.job.now
    → take c.gate_count-count.result c.weigh.result ≡ entered c.args.job.now
entered_all c gates =
    let count : c.gate_count-count.result ≡ length (take c.gate_count-count.result c.gate_table-gates.result) =
    c.gate_count-count.ensures ∙ ap₂ (λ (k w : ℕ). length (gates_for k w)) c.most_controls-most.ensures c.wires-wires.ensures.value ∙ sym (ap length gates) in
    ap (λ (n : ℕ). take n c.weigh.result) count ∙ c.weigh.ensures
    ∙ (λ i. map (weighed (c.prices-prices.ensures i) (c.durations-durations.ensures i)) (gates i))

gates_entered : (prices durations : Weights) (gates : List ℕ) → entry_gates (map (weighed prices durations) gates) ≡ gates
gates_entered prices durations [] = refl
gates_entered prices durations (g ∷ gates) = ap (λ (l : List ℕ). g ∷ l) (gates_entered prices durations gates)

pub gate_count-count-requires : goal.gate_count-count-requires
gate_count-count-requires c = fits (goal.at.gate_count-count-requires c).After-wires-wires

pub gate_table-gates-requires : goal.gate_table-gates-requires
gate_table-gates-requires c = fits (goal.at.gate_table-gates-requires c).After-wires-wires

pub returns-clause-lawfuls : goal.returns-clause-lawfuls
returns-clause-lawfuls c =
    let job = c.args.job.now in
    subst (λ (es : List Entry). Lawfuls job (entry_gates es)) (sym (entered_all (goal.at.returns-clause-lawfuls c).After-weigh (listed (goal.at.returns-clause-lawfuls c).After-gate_table-gates)))
    (subst (Lawfuls job) (sym (gates_entered (prices job) (durations job) (own job))) (gate_is (most_controls job) (wires job)))

pub returns-clause-tabled : goal.returns-clause-tabled
returns-clause-tabled c =
    let job = c.args.job.now in
    let entry = weighed (prices job) (durations job) in
    subst (Tabled (own_set job)) (sym (entered_all (goal.at.returns-clause-tabled c).After-weigh (listed (goal.at.returns-clause-tabled c).After-gate_table-gates))) record {
      listed = gates_entered (prices job) (durations job) (own job);
      priced = All-map (λ (e : Entry). e.price ≡ price_of job e.gate) entry (own job) (λ k d h. refl);
      timed = All-map (λ (e : Entry). e.duration ≡ duration_of job e.gate) entry (own job) (λ k d h. refl);
    }
