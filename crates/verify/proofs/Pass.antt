-- Demand 2's sentence on verifying: a circuit passes for a job exactly if it has the job's wires, a mark only where the job is a longer
-- one, and an allowed layout, and realizes the table within all three limits.
use mathlib.Core.Path.{◌≡◌, sym, ap, ◌∙◌}
use mathlib.Core.Logic.{◌↔◌}
use mathlib.Core.List.{List}
use Prim.Native.Nat.{ℕ}
use borrow.Author.Tests.{eqb-true, leb-true, eq-eqb, le-leb}
use lib.Dec.{eqb, leb, lit<}
use lib.ListN.{length}
use Rattle.logic.specs.Answers.{answered}
use Rattle.logic.proofs.Answers.{answered_with, answered_is}
use Rattle.logic.proofs.Chain.{both_left, both_right, rule_kept, and_then_zero}
use Rattle.circuit.specs.run.Run.{forwards}
use Rattle.circuit.specs.Measure.{cost, depth}
use Rattle.table.specs.layouts.Layouts.{allowed}
use Rattle.table.specs.Rows.{agrees, clean}
use Rattle.table.proofs.Rows.{realizes_agrees, realizes_clean, agrees_realizes}
use Rattle.record.specs.JobRules.{job_code}
use Rattle.record.specs.job_fields.Jobs.{data_wires, ancillas, free_layout, gate_limit, cost_limit, depth_limit, price_of, duration_of, rows}
use Rattle.record.specs.circuit_fields.Circuits.{layout_of, gates}
use Rattle.circuit.specs.declared.measures.Measures.{Measures}
use Rattle.circuit.specs.measures.Measures.{measures_of}
use Rattle.verify.specs.Calls.{measures_for, verify_code, verify_of, verify_rest}
use Rattle.record.specs.pair_codes.Codes.{same_wires, circuit_code_for, measure_code}
use Rattle.verify.specs.limits.Limits.{limits_code}
use Rattle.verify.specs.Demand.{PassesAt, Passes}
use Rattle.verify.proofs.Codes.{circuit_parts}

module _ (price duration : ℕ → ℕ) (job c : List ℕ) where
  -- for a job and a circuit that measuring does not refuse, the remaining rules hold exactly if the circuit passes
  pub rest_passes : job_code job ≡ 0 → circuit_code_for job c ≡ 0 → verify_rest job c (measures_of price duration (gates c)) ≡ 0
      → PassesAt price duration job c
  unfolding verify_rest limits_code measures_of same_wires
  rest_passes hj hc h =
      let m = circuit_parts job c hc in
      let k₁ = rule_kept (allowed (data_wires job) (free_layout job) (layout_of c)) 15 _ (lit< tt) h in
      let k₂ = rule_kept (agrees (layout_of c) (forwards (gates c)) (rows job)) 16 _ (lit< tt) k₁.1 in
      let k₃ = rule_kept (clean (data_wires job) (forwards (gates c))) 24 _ (lit< tt) k₂.1 in
      let k₄ = rule_kept (leb (length (gates c)) (gate_limit job)) 17 _ (lit< tt) k₃.1 in
      let k₅ = rule_kept (leb (cost price (gates c)) (cost_limit job)) 18 _ (lit< tt) k₄.1 in
      let k₆ = rule_kept (leb (depth duration (gates c)) (depth_limit job)) 19 0 (lit< tt) k₅.1 in
      let n = eqb (data_wires job) (data_wires c) in
      let a = eqb (ancillas job) (ancillas c) in
      record {
        job_sound_law = hj;
        circuit_sound_law = m.0;
        same_data = eqb-true (data_wires job) (data_wires c) (both_left n a m.1.0);
        same_ancillas = eqb-true (ancillas job) (ancillas c) (both_right n a m.1.0);
        mark_fits_law = m.1.1;
        laid_out = k₁.0;
        realized = agrees_realizes (data_wires job) (rows job) (layout_of c) (gates c) k₂.0 k₃.0;
        gates_within = leb-true (length (gates c)) (gate_limit job) k₄.0;
        cost_within = leb-true (cost price (gates c)) (cost_limit job) k₅.0;
        depth_within = leb-true (depth duration (gates c)) (depth_limit job) k₆.0;
      }

  module _ (s : PassesAt price duration job c) where
    pub passes_circuit : circuit_code_for job c ≡ 0
    unfolding circuit_code_for same_wires
    passes_circuit =
        rw (
          s.circuit_sound_law,
          eq-eqb (data_wires job) (data_wires c) s.same_data,
          eq-eqb (ancillas job) (ancillas c) s.same_ancillas,
          s.mark_fits_law,
        )

    pub passes_rest : verify_rest job c (measures_of price duration (gates c)) ≡ 0
    unfolding verify_rest limits_code measures_of
    passes_rest =
        rw (
          s.laid_out,
          realizes_agrees (data_wires job) (rows job) (layout_of c) (gates c) s.realized,
          realizes_clean (data_wires job) (rows job) (layout_of c) (gates c) s.realized,
          le-leb (length (gates c)) (gate_limit job) s.gates_within,
          le-leb (cost price (gates c)) (cost_limit job) s.cost_within,
          le-leb (depth duration (gates c)) (depth_limit job) s.depth_within,
        )

module _ (job c : List ℕ) where
  pub code_passes : verify_code job c ≡ 0 → Passes job c
  unfolding verify_code measure_code
  code_passes h =
      let p = and_then_zero (measure_code job c) (verify_rest job c (measures_for job c)) h in
      let q = and_then_zero (job_code job) (circuit_code_for job c) p.0 in
      rest_passes (price_of job) (duration_of job) job c q.0 q.1 p.1

  passes_code : Passes job c → verify_code job c ≡ 0
  unfolding verify_code measure_code
  passes_code s =
      rw (s.job_sound_law, passes_circuit (price_of job) (duration_of job) job c s, passes_rest (price_of job) (duration_of job) job c s)

  -- a pass, and the measures that it returns
  pub pass : (m : Measures) → (verify_of job c ≡ answered m) ↔ (Passes job c × (m ≡ measures_for job c))
  unfolding verify_of
  pass m = (
    (λ h. let a = answered_is (verify_code job c) (measures_for job c) m h in (code_passes a.0, a.1)),
    (λ p. answered_with (verify_code job c) (measures_for job c) (passes_code p.0) ∙ ap answered (sym p.1)),
  )
