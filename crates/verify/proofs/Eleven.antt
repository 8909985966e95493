-- No call that takes a circuit refuses with 11, whatever bytes it is handed.
use mathlib.Core.Path.{◌≡◌}
use mathlib.Core.List.{List}
use Prim.Native.Nat.{ℕ}
use native.Mathlib.Omega.{arith}
use Rattle.logic.specs.Answers.{refused}
use Rattle.logic.proofs.Answers.{refused_is}
use Rattle.logic.proofs.Chain.{rule_never, and_then_never}
use Rattle.circuit.specs.run.Run.{forwards}
use Rattle.table.specs.layouts.Layouts.{allowed}
use Rattle.table.specs.Rows.{agrees, clean}
use Rattle.record.specs.job_fields.Jobs.{data_wires, free_layout, rows}
use Rattle.record.specs.circuit_fields.Circuits.{layout_of, gates}
use Rattle.record.proofs.Never.{measure_code_never}
use Rattle.circuit.specs.declared.measures.Measures.{Measures}
use Rattle.verify.specs.Calls.{measures_for, measure_of, verify_rest}
use Rattle.record.specs.pair_codes.Codes.{measure_code}
use Rattle.verify.specs.Calls.{verify_code, verify_of}
use Rattle.verify.proofs.limits.Within.{limits_never}

module _ (job c : List ℕ) where
  pub rest_never : (m : Measures) → verify_rest job c m ≡ 11 → ⊥
  unfolding verify_rest
  rest_never m =
      rule_never 11 (allowed (data_wires job) (free_layout job) (layout_of c)) 15 _ (λ e. omega arith)
      (rule_never 11 (agrees (layout_of c) (forwards (gates c)) (rows job)) 16 _ (λ e. omega arith)
      (rule_never 11 (clean (data_wires job) (forwards (gates c))) 24 _ (λ e. omega arith) (limits_never job m)))

  pub measure_never : measure_of job c ≡ refused 11 → ⊥
  unfolding measure_of
  measure_never h = measure_code_never job c (refused_is (measure_code job c) (measures_for job c) 11 h)

  pub verify_never : verify_of job c ≡ refused 11 → ⊥
  unfolding verify_of verify_code
  verify_never h =
      and_then_never 11 (measure_code job c) (verify_rest job c (measures_for job c)) (measure_code_never job c) (rest_never (measures_for job c))
      (refused_is (verify_code job c) (measures_for job c) 11 h)
