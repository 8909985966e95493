-- A run that is not refused ends with a byte, which is what the published gate definitions give; and no run is refused with 11.
use mathlib.Core.Path.{◌≡◌, sym, ◌∙◌}
use mathlib.Core.Bool.{Bool, true, false}
use mathlib.Core.List.{List}
use Prim.Native.Nat.{ℕ, ◌^◌, ◌<◌}
use native.Mathlib.Nat.{lt_of_lt_of_le}
use borrow.Author.Tests.{ltb-true}
use lib.Dec.{ltb, lit<}
use lib.Pow.{pow_mono}
use Rattle.logic.specs.Rules.{pick, rule}
use Rattle.logic.proofs.Chain.{and_then_zero, rule_kept}
use Rattle.circuit.specs.run.Run.{forwards, backwards}
use Rattle.circuit.specs.run.Published.{published_forwards, published_backwards}
use Rattle.circuit.proofs.run.Reversal.{stays, stays_back}
use Rattle.circuit.proofs.run.Published.{forwards_published, backwards_published}
use Rattle.record.specs.job_fields.Jobs.{wires}
use Rattle.record.specs.circuit_rules.CircuitRules.{circuit_code}
use Rattle.record.specs.circuit_fields.Circuits.{marked, controls_of, gates}
use Rattle.record.proofs.job_fields.Widths.{two_or_three}
use Rattle.record.proofs.circuit_rules.Sound.{sound_circuit, circuit_wires_within}
use Rattle.verify.specs.runs.Runs.{run_of, forwards_of, backwards_of}
use Rattle.record.specs.pair_codes.Codes.{run_code}
use Rattle.logic.specs.Answers.{refused, answered}
use Rattle.logic.proofs.Answers.{refused_is, answered_is}
use Rattle.record.proofs.Never.{run_code_never}

module _ (c : List ℕ) where
  run_parts : (v : ℕ) → run_code c v ≡ 0 → (circuit_code c ≡ 0) × (v < 2 ^ wires c)
  unfolding run_code
  run_parts v h =
      let p = and_then_zero (circuit_code c) (rule (ltb v (2 ^ wires c)) 20 0) h in
      (p.0, ltb-true v (2 ^ wires c) (rule_kept (ltb v (2 ^ wires c)) 20 0 (lit< tt) p.1).0)

  -- the end value of a run is a byte
  pub ran_small : (forth : Bool) (v : ℕ) → run_code c v ≡ 0 → pick forth (forwards (gates c) v) (backwards (gates c) v) < 32
  ran_small true v h =
      let p = run_parts v h in
      lt_of_lt_of_le (stays (controls_of c) (wires c) (gates c) v (sound_circuit c p.0).kept p.1) (pow_mono (circuit_wires_within c p.0).1)
  ran_small false v h =
      let p = run_parts v h in
      lt_of_lt_of_le (stays_back (controls_of c) (wires c) (gates c) v (sound_circuit c p.0).kept p.1)
      (pow_mono (circuit_wires_within c p.0).1)

  pub forwards_small : (v : ℕ) → 0 ≡ run_code c v → forwards (gates c) v < 32
  forwards_small v h = ran_small true v (sym h)

  pub backwards_small : (v : ℕ) → 0 ≡ run_code c v → backwards (gates c) v < 32
  backwards_small v h = ran_small false v (sym h)

  pub ruleset small_ends = (forwards_small, backwards_small)

  -- Demand 2: a run that is answered gives what the published gate definitions give, gate after gate.
  module _ (v u : ℕ) where
    pub ran_forwards : forwards_of c v ≡ answered u → u ≡ published_forwards (gates c) v
    unfolding run_of
    ran_forwards h =
        let a = answered_is (run_code c v) (forwards (gates c) v) u h in
        let p = run_parts v a.0 in
        a.1
        ∙ forwards_published (controls_of c) (wires c) (two_or_three (marked c)).1 (circuit_wires_within c p.0).1 (gates c) v
        (sound_circuit c p.0).kept p.1

    pub ran_backwards : backwards_of c v ≡ answered u → u ≡ published_backwards (gates c) v
    unfolding run_of
    ran_backwards h =
        let a = answered_is (run_code c v) (backwards (gates c) v) u h in
        let p = run_parts v a.0 in
        a.1
        ∙ backwards_published (controls_of c) (wires c) (two_or_three (marked c)).1 (circuit_wires_within c p.0).1 (gates c) v
        (sound_circuit c p.0).kept p.1

pub run_never : (forth : Bool) (c : List ℕ) (v : ℕ) → run_of forth c v ≡ refused 11 → ⊥
unfolding run_of
run_never forth c v h = run_code_never c v (refused_is (run_code c v) (pick forth (forwards (gates c) v) (backwards (gates c) v)) 11 h)
