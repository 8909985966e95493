-- What a job and a circuit that measuring does not refuse are known to be.
use mathlib.Core.Path.{◌≡◌, sym}
use mathlib.Core.Bool.{true}
use mathlib.Core.List.{List}
use Prim.Native.Nat.{ℕ}
use lib.Dec.{lit<}
use Rattle.logic.specs.Rules.{rule}
use Rattle.logic.proofs.Chain.{and_then_zero, rule_kept}
use Rattle.record.specs.JobRules.{job_code}
use Rattle.record.specs.circuit_rules.CircuitRules.{circuit_code}
use Rattle.record.specs.pair_codes.Codes.{same_wires, mark_fits, circuit_code_for, measure_code}

pub circuit_parts : (job c : List ℕ) → circuit_code_for job c ≡ 0 → (circuit_code c ≡ 0) × ((same_wires job c ≡ true) × (mark_fits job c ≡ true))
unfolding circuit_code_for
circuit_parts job c h =
    let q = and_then_zero (circuit_code c) (rule (same_wires job c) 12 (rule (mark_fits job c) 28 0)) h in
    let k = rule_kept (same_wires job c) 12 (rule (mark_fits job c) 28 0) (lit< tt) q.1 in
    (q.0, (k.0, (rule_kept (mark_fits job c) 28 0 (lit< tt) k.1).0))

-- a well-formed job, a sound circuit, the job's wires, and a mark that fits
abbrev pub Parts : List ℕ → List ℕ → Type 0
Parts job c = (job_code job ≡ 0) × ((circuit_code c ≡ 0) × ((same_wires job c ≡ true) × (mark_fits job c ≡ true)))

pub measure_parts : (job c : List ℕ) → measure_code job c ≡ 0 → Parts job c
unfolding measure_code
measure_parts job c h = let p = and_then_zero (job_code job) (circuit_code_for job c) h in (p.0, circuit_parts job c p.1)

-- the same for a call that goes on after these checks
module _ (job c : List ℕ) (h : 0 ≡ measure_code job c) where
  pub measured_job : job_code job ≡ 0
  measured_job = (measure_parts job c (sym h)).0

  pub measured_circuit : circuit_code c ≡ 0
  measured_circuit = (measure_parts job c (sym h)).1.0

pub ruleset measured = (measured_job, measured_circuit)
