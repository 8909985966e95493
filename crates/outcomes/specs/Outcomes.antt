-- What a search answers: a job as a problem, the problem's first good choice as a circuit record, and what the call returns and writes.
use Rattle.std.specs.Prelude.{List, ℕ, eqb, length}
use Rattle.std.proofs.Math.Option.{Option, none, some}
use Rattle.logic.specs.Rules.{pick}
use Rattle.logic.specs.Answers.{Answer, refused, answered}
use Rattle.gate.specs.Gates.{gates_for}
use Rattle.table.specs.layouts.Layouts.{layouts_for}
use Rattle.table.specs.Rows.{realizes}
use Rattle.text.specs.pieces.Text.{in_front}
use Rattle.record.specs.job_fields.Jobs.{longer, most_controls, data_wires, ancillas, wires, free_layout, gate_limit, cost_limit, depth_limit}
use Rattle.record.specs.job_fields.Jobs.{price_of, duration_of, rows}
use Rattle.record.specs.circuit_fields.Circuits.{circuit_bytes}
use Rattle.circuit.specs.declared.measures.Measures.{Measures}
use Rattle.circuit.specs.measures.Measures.{measures_of}
use Rattle.problem.specs.order.Choices.{Choice}
use Rattle.problem.specs.Problems.{Problem, first_good}
use Rattle.outcomes.specs.declared.Reported.{Reported}
use Rattle.record.specs.pair_codes.Codes.{search_code}

-- the gates that a list may be made of, with their prices and durations
pub record GateSet : Type 0 where
  pub gates : List ℕ
  pub price : ℕ → ℕ
  pub duration : ℕ → ℕ

-- the gates lawful for a job, at the job's own prices and durations; for a longer job "least cost and 'none' range over the larger gate
-- set" (02)
abbrev pub own_set : List ℕ → GateSet
own_set job = record { gates = gates_for (most_controls job) (wires job); price = price_of job; duration = duration_of job }

-- what a job asks for, over a set of gates: "the meeting circuit with the job's n and m and an allowed placing, within all limits (each
-- limit is itself allowed)"
unfoldable pub problem_over : GateSet → List ℕ → Problem
problem_over G job = record {
  gates = G.gates;
  layouts = layouts_for (data_wires job) (free_layout job);
  price = G.price;
  duration = G.duration;
  realized = realizes (data_wires job) (rows job);
  most_gates = gate_limit job;
  most_cost = cost_limit job;
  most_depth = depth_limit job;
}

-- a job's problem over its own gates
abbrev pub problem_of : List ℕ → Problem
problem_of job = problem_over (own_set job) job

-- a circuit record with the job's n and m; a longer job's "answers carry a 1 in the lowest bit of the circuit's byte 0" (02)
unfoldable pub record_of : List ℕ → ℕ → List ℕ → List ℕ
record_of job p l = circuit_bytes (data_wires job) (ancillas job) (longer job) p l

-- what a search finds: a circuit record, and the circuit's measures
pub record Found : Type 0 where
  pub bytes : List ℕ
  pub measures : Measures

-- a choice as its record and its measures
abbrev pub found_of : GateSet → List ℕ → Choice → Found
found_of G job c = record { bytes = record_of job c.layout c.bytes; measures = measures_of G.price G.duration c.bytes }

-- "Does a circuit within the limits meet the table? If not, 14."
abbrev pub outcome_of : GateSet → List ℕ → Option Choice → Answer Found
outcome_of G job none = refused 14
outcome_of G job (some c) = answered (found_of G job c)

-- a search over a set of gates, once the checks gave `code`: the refusal, or where that is 0 the outcome
unfoldable pub search_over : GateSet → List ℕ → ℕ → Answer Found
search_over G job code = pick (eqb code 0) (outcome_of G job (first_good (problem_over G job))) (refused code)

-- the public search, with `room` bytes for the answer
unfoldable pub search_of : List ℕ → ℕ → Answer Found
search_of job room = search_over (own_set job) job (search_code job room)

-- "its length (3 bytes and one a gate) and its three measures are returned"; "a refusal returns its number alone"
abbrev pub reported : Answer Found → Answer Reported
reported (refused code) = refused code
reported (answered f) = answered (record { size = length f.bytes; measures = f.measures })

-- "and the answer buffer is untouched. A found circuit is written from byte 0; later bytes are untouched"
abbrev pub written : Answer Found → List ℕ → List ℕ
written (refused code) answer = answer
written (answered f) answer = in_front f.bytes answer
