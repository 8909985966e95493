-- Demand 2 with a library: a circuit passes for a job exactly when the library breaks no rule, each gate of the circuit is listed, and the
-- rest holds at the library's prices and durations. The ready times of a pass; and 11 is never said.
use mathlib.Core.Path.{◌≡◌, sym, ap, ◌∙◌}
use mathlib.Core.Logic.{◌↔◌}
use mathlib.Core.List.{List}
use Prim.Native.Nat.{ℕ}
use native.Mathlib.Omega.{arith}
use lib.Dec.{lit<}
use Rattle.logic.specs.Lists.{all_of}
use Rattle.logic.specs.Answers.{refused, answered}
use Rattle.logic.proofs.Answers.{answered_with, answered_is, refused_is}
use Rattle.logic.proofs.Chain.{rule_kept, rule_never, and_then_zero, and_then_never}
use Rattle.record.specs.JobRules.{job_code}
use Rattle.record.specs.job_fields.Jobs.{wires}
use Rattle.record.specs.circuit_fields.Circuits.{gates}
use Rattle.record.proofs.Never.{job_never, circuit_for_never}
use Rattle.circuit.specs.declared.measures.Measures.{Measures}
use Rattle.verify.specs.Calls.{verify_rest}
use Rattle.record.specs.pair_codes.Codes.{circuit_code_for}
use Rattle.verify.specs.Demand.{Timed}
use Rattle.verify.proofs.Pass.{rest_passes, passes_circuit, passes_rest}
use Rattle.verify.proofs.Ready.{timed}
use Rattle.verify.proofs.Eleven.{rest_never}
use Rattle.library.specs.entries.Library.{price_in, duration_in, listed, library_size_ok, library_sound, library_code}
use Rattle.library.specs.calls.Calls.{job_with_code, circuit_with_code, measures_in, rest_with_code, verify_with_code, verify_with}
use Rattle.library.specs.calls.Demand.{PassesWith}
use Rattle.library.proofs.calls.Sound.{listed_among, among_listed, suited}

-- 11 is no code of the checks of a job and its library
pub job_with_never : (job lib : List ℕ) → job_with_code job lib ≡ 11 → ⊥
unfolding job_with_code library_code
job_with_never job lib =
    and_then_never 11 (job_code job) (library_code job lib) (job_never job)
    (rule_never 11 (library_size_ok lib) 29 _ (λ e. omega arith)
    (rule_never 11 (library_sound job lib) 30 0 (λ e. omega arith) (λ e. omega arith)))

module _ (job lib c : List ℕ) where
  code_passes : verify_with_code job lib c ≡ 0 → PassesWith job lib c
  unfolding verify_with_code rest_with_code
  code_passes h =
      let p = and_then_zero (circuit_with_code job lib c) (rest_with_code job lib c (measures_in lib c)) h in
      let s = suited job lib c p.0 in
      let k = rule_kept (all_of (listed lib) (gates c)) 31 (verify_rest job c (measures_in lib c)) (lit< tt) p.1 in
      record {
        library_sound_law = s.library_sound_law;
        all_listed = listed_among lib (gates c) k.0;
        passes = rest_passes (price_in lib) (duration_in lib) job c s.job_sound_law s.circuit_fits k.1;
      }

  passes_code : PassesWith job lib c → verify_with_code job lib c ≡ 0
  unfolding verify_with_code circuit_with_code job_with_code rest_with_code
  passes_code s =
      let p = s.passes in
      rw (
        p.job_sound_law,
        s.library_sound_law,
        passes_circuit (price_in lib) (duration_in lib) job c p,
        among_listed lib (gates c) s.all_listed,
        passes_rest (price_in lib) (duration_in lib) job c p,
      )

  -- a pass, and the measures that it returns
  pub pass_with : (m : Measures) → (verify_with job lib c ≡ answered m) ↔ (PassesWith job lib c × (m ≡ measures_in lib c))
  unfolding verify_with
  pass_with m = (
    (λ h. let a = answered_is (verify_with_code job lib c) (measures_in lib c) m h in (code_passes a.0, a.1)),
    (λ p. answered_with (verify_with_code job lib c) (measures_in lib c) (passes_code p.0) ∙ ap answered (sym p.1)),
  )

  pub ready_with : (m : Measures) → verify_with job lib c ≡ answered m → Timed (wires c) m
  ready_with m h =
      let p = (pass_with m).0 h in
      rw p.1 (timed (price_in lib) (duration_in lib) c p.0.passes.circuit_sound_law)

  pub verify_with_never : verify_with job lib c ≡ refused 11 → ⊥
  unfolding verify_with verify_with_code circuit_with_code rest_with_code
  verify_with_never h =
      and_then_never 11 (circuit_with_code job lib c) _
      (and_then_never 11 (job_with_code job lib) (circuit_code_for job c) (job_with_never job lib) (circuit_for_never job c))
      (rule_never 11 (all_of (listed lib) (gates c)) 31 _ (λ e. omega arith) (rest_never job c (measures_in lib c)))
      (refused_is (verify_with_code job lib c) (measures_in lib c) 11 h)
