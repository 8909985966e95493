-- When entries are the gates of a set, and what `tell` makes of a choice: for private contracts. No public contract cites this.
use Rattle.std.specs.Prelude.{◌≡◌, true, ℕ}
use mathlib.Core.List.{List, Memᴰ}
use Rattle.std.specs.List.{All}
use Rattle.std.proofs.Math.Option.{Option, none, some}
use Rattle.logic.specs.Answers.{Answer, refused, answered}
use Rattle.gate.specs.Gates.{lawful}
use Rattle.record.specs.job_fields.Jobs.{most_controls, wires}
use Rattle.circuit.specs.declared.Weights.{Weights}
use Rattle.circuit.specs.Measure.{weight_of}
use Rattle.circuit.specs.declared.measures.Measures.{Measures}
use Rattle.problem.specs.declared.Entry.{Entry}
use Rattle.problem.specs.Entries.{entry_gates}
use Rattle.problem.specs.order.Choices.{Choice}
use Rattle.outcomes.specs.Outcomes.{GateSet, record_of, Found}

-- each of these gates is lawful for the job
abbrev pub Lawfuls : List ℕ → List ℕ → Type 0
Lawfuls job gates = (g : ℕ) → Memᴰ g gates → lawful (most_controls job) (wires job) g ≡ true

-- a gate with its price and duration
abbrev pub weighed : Weights → Weights → ℕ → Entry
weighed prices durations g = record { gate = g; price = weight_of prices g; duration = weight_of durations g }

-- these entries are the gates of a set, with their prices and durations
pub record Tabled (G : GateSet) (entries : List Entry) : Type 0 where
  pub listed : entry_gates entries ≡ G.gates
  pub priced : All (λ (e : Entry). e.price ≡ G.price e.gate) entries
  pub timed : All (λ (e : Entry). e.duration ≡ G.duration e.gate) entries

-- the outcome for a first good choice whose measures are m: its record with m, or 14 where there is none
abbrev pub told_of : List ℕ → Measures → Option Choice → Answer Found
told_of job m none = refused 14
told_of job m (some c) = answered (record { bytes = record_of job c.layout c.bytes; measures = m })
