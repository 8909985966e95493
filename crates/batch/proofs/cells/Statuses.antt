-- What the status of a record that was cut off can be.
use mathlib.Core.Path.{◌≡◌, sym, ap, ◌∙◌}
use mathlib.Core.Bool.{true}
use mathlib.Core.Logic.{⊎_elim}
use mathlib.Core.List.{List}
use Prim.Native.Nat.{ℕ}
use native.Mathlib.Decide.{ℕ_discrete}
use native.Mathlib.Omega.{arith}
use borrow.Author.Tests.{ne_eqb}
use Rattle.logic.specs.Rules.{rule}
use Rattle.logic.specs.Answers.{refused}
use Rattle.logic.proofs.Chain.{rule_never}
use Rattle.record.specs.JobRules.{job_length_ok, size_ok, head_ok, limit_ok, durations_ok, rows_ok, job_code}
use Rattle.record.specs.pair_codes.Codes.{search_code}
use Rattle.outcomes.specs.Outcomes.{own_set, search_of}
use Rattle.outcomes.proofs.Facts.{answers}
use Rattle.outcomes.proofs.Answer.{by_code}
use Rattle.batch.specs.cells.Batches.{status_of}
use Rattle.batch.proofs.cutting.Joined.{Shaped}

-- its length is a job's, and n goes with it
length_ok : (r : List ℕ) → Shaped r → job_length_ok r ≡ true
unfolding job_length_ok
length_ok r s = ⊎_elim (λ e. rw e.1) (λ e. rw e.1) s

size_ok_law : (r : List ℕ) → Shaped r → size_ok r ≡ true
unfolding size_ok
size_ok_law r s = ⊎_elim (λ e. rw (e.0, e.1)) (λ e. rw (e.0, e.1)) s

module _ (r : List ℕ) (s : Shaped r) (n : ℕ) (zero : 0 ≡ n → ⊥) (three : 3 ≡ n → ⊥) (four : 4 ≡ n → ⊥) (five : 5 ≡ n → ⊥) (six : 6 ≡ n → ⊥) where
  job_never : job_code r ≡ n → ⊥
  unfolding job_code
  job_never h =
      let k = rw (length_ok r s, size_ok_law r s) at h in
      rule_never n (head_ok r) 3 (rule (limit_ok r) 4 (rule (durations_ok r) 5 (rule (rows_ok r) 6 0))) three
      (rule_never n (limit_ok r) 4 (rule (durations_ok r) 5 (rule (rows_ok r) 6 0)) four
      (rule_never n (durations_ok r) 5 (rule (rows_ok r) 6 0) five (rule_never n (rows_ok r) 6 0 six zero)))
      k

  -- 0, 3, 4, 5, 6 or 14, and no other
  pub status_never : (14 ≡ n → ⊥) → status_of (search_of r 15) ≡ n → ⊥
  unfolding search_of search_code
  status_never fourteen h = by_job (ℕ_discrete (job_code r) 0)
    where
      by_job : Dec (job_code r ≡ 0) → ⊥
      by_job (yes sound) =
          ⊎_elim (λ e. fourteen (sym (ap status_of e) ∙ h)) (λ f. zero (sym (ap status_of f.1) ∙ h)) (answers r sound 15 (omega arith))
      by_job (no u) =
          let e : search_code r 15 ≡ job_code r = rw (ne_eqb (job_code r) 0 u) in
          let w = by_code (own_set r) r (search_code r 15) (λ z. u (sym e ∙ z)) ∙ ap refused e in
          job_never (sym (ap status_of w) ∙ h)
