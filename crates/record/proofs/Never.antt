-- The number 11 is never given (change request 9): not by the checks of a job or a circuit, nor by the codes that running, measuring and
-- searching put together from them. Then the laws that carry this to what a call answers.
use mathlib.Core.Path.{◌≡◌, refl}
use mathlib.Core.Bool.{Bool, true, false}
use mathlib.Core.List.{List}
use Prim.Native.Nat.{ℕ, ◌^◌}
use native.Mathlib.Omega.{arith}
use lib.Dec.{eqb, ltb, leb}
use Rattle.logic.specs.Rules.{pick}
use Rattle.logic.specs.Answers.{Answer, refused, answered}
use Rattle.logic.proofs.Answers.{refused_is}
use Rattle.logic.proofs.Chain.{rule_never, and_then_never}
use Rattle.record.specs.JobRules.{job_length_ok, size_ok, head_ok, limit_ok, durations_ok, rows_ok, job_code}
use Rattle.record.specs.job_fields.Jobs.{wires}
use Rattle.record.specs.circuit_rules.CircuitRules.{circuit_code}
use Rattle.record.specs.pair_codes.Codes.{run_code, same_wires, mark_fits, circuit_code_for, measure_code, search_code}
use Rattle.std.specs.Prelude.{Result, Ok, Err}
use Rattle.record.specs.declared.refusal.Refusal.{Refusal}
use Rattle.record.specs.Answers.{code_of, reply, check_of}
use Rattle.record.proofs.Refusals.{refused_first}
use Rattle.record.proofs.circuit_rules.Eleven.{circuit_never}

pub job_never : (job : List ℕ) → job_code job ≡ 11 → ⊥
unfolding job_code
job_never job =
    rule_never 11 (job_length_ok job) 1 _ (λ e. omega arith)
    (rule_never 11 (size_ok job) 2 _ (λ e. omega arith)
    (rule_never 11 (head_ok job) 3 _ (λ e. omega arith)
    (rule_never 11 (limit_ok job) 4 _ (λ e. omega arith)
    (rule_never 11 (durations_ok job) 5 _ (λ e. omega arith)
    (rule_never 11 (rows_ok job) 6 0 (λ e. omega arith) (λ e. omega arith))))))

pub circuit_for_never : (job c : List ℕ) → circuit_code_for job c ≡ 11 → ⊥
unfolding circuit_code_for
circuit_for_never job c =
    and_then_never 11 (circuit_code c) _ (circuit_never c)
    (rule_never 11 (same_wires job c) 12 _ (λ e. omega arith)
    (rule_never 11 (mark_fits job c) 28 0 (λ e. omega arith) (λ e. omega arith)))

pub measure_code_never : (job c : List ℕ) → measure_code job c ≡ 11 → ⊥
unfolding measure_code
measure_code_never job c = and_then_never 11 (job_code job) _ (job_never job) (circuit_for_never job c)

pub run_code_never : (c : List ℕ) (v : ℕ) → run_code c v ≡ 11 → ⊥
unfolding run_code
run_code_never c v =
    and_then_never 11 (circuit_code c) _ (circuit_never c) (rule_never 11 (ltb v (2 ^ wires c)) 20 0 (λ e. omega arith) (λ e. omega arith))

pub search_code_never : (job : List ℕ) (room : ℕ) → search_code job room ≡ 11 → ⊥
unfolding search_code
search_code_never job room =
    and_then_never 11 (job_code job) _ (job_never job) (rule_never 11 (leb 15 room) 13 0 (λ e. omega arith) (λ e. omega arith))

-- what a check answers, by the code that its contract gives
pub check_is : (r : Result (Unit {0}) Refusal) (code : ℕ) → code_of r ≡ code → reply r ≡ check_of code
check_is (Ok tt) code h = rw (← h) refl
check_is (Err r) code h = refused_first r code h tt

-- `check_job` and `check_circuit`: their contracts give these codes, so `check_is` makes of them what the calls answer
pub check_job_never : (job : List ℕ) → check_of (job_code job) ≡ refused 11 → ⊥
check_job_never job h = job_never job (refused_is (job_code job) tt 11 h)

pub check_circuit_never : (c : List ℕ) → check_of (circuit_code c) ≡ refused 11 → ⊥
check_circuit_never c h = circuit_never c (refused_is (circuit_code c) tt 11 h)

-- Answers: a refusal has one number, a value none; of two answers one is given; and a call whose checks gave `code` answers with that or,
-- where it is 0, with x.
module _ {A : Type 0} (n : ℕ) where
  pub one_number : (m : ℕ) → ◌≡◌ {A = Answer A} (refused m) (refused n) → m ≡ n
  one_number m h = cc

  pub no_number : (v : A) → answered v ≡ refused n → ⊥
  no_number v h = let z : ◌≡◌ {A = ℕ} 0 1 = cc in omega arith

  pub picked_never : (t : Bool) (x y : Answer A) → (x ≡ refused n → ⊥) → (y ≡ refused n → ⊥) → pick t x y ≡ refused n → ⊥
  picked_never true x y f g h = f h
  picked_never false x y f g h = g h

  pub answer_never : (code : ℕ) (x : Answer A) → (code ≡ n → ⊥) → (x ≡ refused n → ⊥) → pick (eqb code 0) x (refused code) ≡ refused n → ⊥
  answer_never code x c f = picked_never (eqb code 0) x (refused code) f (λ h. c (one_number code h))
