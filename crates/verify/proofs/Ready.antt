-- The ready times in an answer are those of the circuit, the greatest is the depth, and they are 0 for wires that the circuit lacks.
use mathlib.Core.Path.{◌≡◌, refl, sym, ap, ◌∙◌}
use mathlib.Core.List.{List, [], ◌∷◌}
use Prim.Native.Nat.{ℕ}
use lib.ListN.{length, get_or}
use Rattle.logic.specs.Lists.{along}
use Rattle.logic.specs.Answers.{answered}
use Rattle.logic.proofs.Answers.{answered_is}
use Rattle.logic.proofs.Members.{spelled}
use Rattle.gate.specs.Gates.{gate_of}
use Rattle.circuit.specs.Measure.{hold_byte, idle, ready_times, greatest}
use Rattle.circuit.proofs.Times.{length_hold}
use Rattle.circuit.proofs.Gatebound.{quiet_ready}
use Rattle.record.specs.job_fields.Jobs.{wires, price_of, duration_of}
use Rattle.record.specs.circuit_rules.CircuitRules.{circuit_code}
use Rattle.record.specs.circuit_fields.Circuits.{controls_of, gates}
use Rattle.record.proofs.circuit_rules.Sound.{sound_circuit, circuit_wires_within}
use Rattle.circuit.specs.declared.measures.Measures.{Measures}
use Rattle.circuit.specs.measures.Measures.{measures_of, ready_of}
use Rattle.verify.specs.Calls.{measures_for, measure_of, verify_code, verify_of}
use Rattle.record.specs.pair_codes.Codes.{measure_code}
use Rattle.verify.specs.Demand.{Timed}
use Rattle.verify.proofs.Codes.{measure_parts}
use Rattle.verify.proofs.Pass.{code_passes}

module _ (price duration : ℕ → ℕ) where
  five_times : (gs ts : List ℕ) → length ts ≡ 5 → length (along (hold_byte duration) gs ts) ≡ 5
  unfolding along
  five_times [] ts h = h
  five_times (b ∷ gs) ts h = five_times gs (hold_byte duration b ts) (length_hold (gate_of b) (duration b) ts ∙ h)

  -- the ready times returned are those of the list
  pub ready_is : (gs : List ℕ) → ready_of (measures_of price duration gs) ≡ ready_times duration gs
  unfolding measures_of
  ready_is gs = spelled (ready_times duration gs) 5 (five_times gs idle refl)

  pub depth_is : (gs : List ℕ) → (measures_of price duration gs).depth ≡ greatest (ready_of (measures_of price duration gs))
  unfolding measures_of
  depth_is gs = ap greatest (sym (ready_is gs))

  pub timed : (c : List ℕ) → circuit_code c ≡ 0 → Timed (wires c) (measures_of price duration (gates c))
  timed c sound = record {
    greatest_ready = depth_is (gates c);
    lacking = λ i h.
        ap (λ (ts : List ℕ). get_or ts i 0) (ready_is (gates c))
        ∙ quiet_ready duration (controls_of c) (wires c) (circuit_wires_within c sound).1 (gates c) (sound_circuit c sound).kept i h;
  }

module _ (job c : List ℕ) where
  pub measured_ready : (m : Measures) → measure_of job c ≡ answered m → Timed (wires c) m
  unfolding measure_of
  measured_ready m h =
      let a = answered_is (measure_code job c) (measures_for job c) m h in
      rw a.1 (timed (price_of job) (duration_of job) c (measure_parts job c a.0).1.0)

  pub verified_ready : (m : Measures) → verify_of job c ≡ answered m → Timed (wires c) m
  unfolding verify_of
  verified_ready m h =
      let a = answered_is (verify_code job c) (measures_for job c) m h in
      rw a.1 (timed (price_of job) (duration_of job) c (code_passes job c a.0).circuit_sound_law)
