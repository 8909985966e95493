-- A limit that is exceeded is never refused with 11.
use mathlib.Core.Path.{◌≡◌}
use mathlib.Core.List.{List}
use Prim.Native.Nat.{ℕ}
use lib.Dec.{leb}
use Rattle.logic.proofs.Chain.{rule_never}
use Rattle.record.specs.job_fields.Jobs.{gate_limit, cost_limit, depth_limit}
use Rattle.verify.specs.limits.Limits.{limits_code}
use native.Mathlib.Omega.{arith}
use Rattle.circuit.specs.declared.measures.Measures.{Measures}

pub limits_never : (job : List ℕ) (m : Measures) → limits_code job m ≡ 11 → ⊥
unfolding limits_code
limits_never job m =
    rule_never 11 (leb m.gates (gate_limit job)) 17 _ (λ e. omega arith)
    (rule_never 11 (leb m.cost (cost_limit job)) 18 _ (λ e. omega arith)
    (rule_never 11 (leb m.depth (depth_limit job)) 19 0 (λ e. omega arith) (λ e. omega arith)))
