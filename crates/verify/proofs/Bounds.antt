-- Document 01's two bounds on depth, for a job and a sound circuit on the same wires: at least the number of gates divided by the number
-- of wires, rounded up, and at most the sum of the durations. The depth that `measure` answers keeps both.
use mathlib.Core.Path.{◌≡◌, ap₂}
use mathlib.Core.Bool.{Bool, true, false, false≢true}
use mathlib.Core.List.{List}
use Prim.Native.Nat.{ℕ, ◌+◌, ◌*◌, ◌≤◌}
use native.Mathlib.Omega.{arith}
use borrow.Author.Tests.{eqb-true}
use lib.Dec.{eqb}
use lib.ListN.{length}
use Rattle.logic.specs.Rules.{implies, pick}
use Rattle.logic.specs.Lists.{all_of, total}
use Rattle.logic.specs.Answers.{answered}
use Rattle.logic.proofs.Answers.{answered_is}
use Rattle.logic.proofs.Chain.{both_parts}
use Rattle.gate.specs.Gates.{lawful}
use Rattle.gate.proofs.Tables.{all_widen}
use Rattle.circuit.specs.Measure.{depth}
use Rattle.circuit.proofs.Prefix.{depth_most}
use Rattle.circuit.proofs.Gatebound.{rounded_up, gates_by_depth, depth_least}
use Rattle.record.specs.JobRules.{job_code}
use Rattle.record.specs.job_fields.Jobs.{longer, most_controls, data_wires, ancillas, wires, duration_of}
use Rattle.record.specs.circuit_rules.CircuitRules.{circuit_code}
use Rattle.record.specs.circuit_fields.Circuits.{marked, controls_of, gates}
use Rattle.record.proofs.Kept.{sound_job, wires_within}
use Rattle.record.proofs.circuit_rules.Sound.{sound_circuit}
use Rattle.circuit.specs.declared.measures.Measures.{Measures}
use Rattle.circuit.specs.measures.Measures.{measures_of}
use Rattle.verify.specs.Calls.{measures_for, measure_of}
use Rattle.record.specs.pair_codes.Codes.{same_wires, mark_fits, measure_code}
use Rattle.verify.proofs.Codes.{measure_parts}

module _ (job c : List ℕ) where
  wires_same : same_wires job c ≡ true → wires job ≡ wires c
  unfolding same_wires wires
  wires_same h =
      let p = both_parts (eqb (data_wires job) (data_wires c)) (eqb (ancillas job) (ancillas c)) h in
      ap₂ ◌+◌ (eqb-true (data_wires job) (data_wires c) p.0) (eqb-true (ancillas job) (ancillas c) p.1)

  -- a marked circuit may hold gates of three controls, and then the job allows them
  no_more : mark_fits job c ≡ true → controls_of c ≤ most_controls job
  unfolding mark_fits
  no_more = by_mark (marked c) (longer job)
    where
      by_mark : (a b : Bool) → implies a b ≡ true → pick a 3 2 ≤ pick b 3 2
      by_mark true true h = omega arith
      by_mark true false h = absurd (false≢true h)
      by_mark false true h = omega arith
      by_mark false false h = omega arith

  module _ (hj : job_code job ≡ 0) (hc : circuit_code c ≡ 0) (same : same_wires job c ≡ true) (fits : mark_fits job c ≡ true) where
    -- the gates of the circuit are lawful for the job
    pub lawful_here : all_of (lawful (most_controls job) (wires job)) (gates c) ≡ true
    lawful_here =
        rw (wires_same same)
        (all_widen (controls_of c) (wires c) (most_controls job) (wires c) (no_more fits) (omega arith) (gates c) (sound_circuit c hc).kept)

    slow : (b : ℕ) → lawful (most_controls job) (wires job) b ≡ true → 1 ≤ duration_of job b
    slow = (sound_job job hj).slow (wires job)

    pub gates_bounded : length (gates c) ≤ wires job * depth (duration_of job) (gates c)
    gates_bounded = gates_by_depth (duration_of job) (most_controls job) (wires job) slow (wires_within job hj).1 (gates c) lawful_here

    pub depth_lower : rounded_up (length (gates c)) (wires job) ≤ depth (duration_of job) (gates c)
    depth_lower =
        let w = wires_within job hj in
        depth_least (duration_of job) (most_controls job) (wires job) slow w.1 (gates c) (omega arith) lawful_here

  pub depth_upper : depth (duration_of job) (gates c) ≤ total (duration_of job) (gates c)
  depth_upper = depth_most (duration_of job) (gates c)

  -- what measuring answers
  pub measured_bounds : (m : Measures) → measure_of job c ≡ answered m
      → (rounded_up m.gates (wires job) ≤ m.depth) × (m.depth ≤ total (duration_of job) (gates c))
  unfolding measure_of measures_of
  measured_bounds m h =
      let a = answered_is (measure_code job c) (measures_for job c) m h in
      let p = measure_parts job c a.0 in
      rw a.1 (depth_lower p.0 p.1.0 p.1.1.0 p.1.1.1, depth_upper)
