-- What a well-formed job is known to have, rule by rule.
use mathlib.Core.Path.{◌≡◌, ap, ◌∙◌}
use mathlib.Core.Bool.{Bool, true, false}
use mathlib.Core.Logic.{◌⊎◌, inl, inr, ⊎_elim}
use mathlib.Core.List.{List}
use Prim.Native.Nat.{ℕ, zero, suc, ◌-◌, ◌%◌, ◌^◌, ◌≤◌}
use native.Mathlib.Omega.{arith}
use borrow.Author.Tests.{eqb-true, leb-true}
use lib.Dec.{eqb, leb, lit<}
use lib.Count.{ones}
use lib.ListN.{length, get_or, length-drop}
use Rattle.logic.specs.Rules.{both, either, implies, pick}
use Rattle.logic.specs.Lists.{all_of}
use Rattle.logic.proofs.Chain.{both_left, both_parts, either_cases, rule_kept}
use Rattle.gate.specs.Gates.{mask_of, lawful, kind_for, gate_of}
use Rattle.gate.proofs.Widen.{parts}
use Rattle.circuit.specs.Measure.{weight_for, weight_of}
use Rattle.table.specs.layouts.Layouts.{Width}
use Rattle.table.specs.Rows.{row_ok}
use Rattle.record.specs.job_fields.Jobs.{longer, most_controls, data_wires, ancillas, wires, gate_limit, durations, duration_of, rows}
use Rattle.record.specs.JobRules.{job_length_ok, size_ok, head_ok, limit_ok, durations_ok, rows_ok, job_code}
use Rattle.record.proofs.job_fields.Widths.{three_to_five}

pub record SoundJob (job : List ℕ) : Type 0 where
  pub width : Width (data_wires job)
  pub spare : ancillas job ≤ 1
  pub limit : gate_limit job ≤ 12
  pub slow : (w b : ℕ) → lawful (most_controls job) w b ≡ true → 1 ≤ duration_of job b
  pub rows_many : length (rows job) ≡ 2 ^ data_wires job
  pub rows_kept : all_of (row_ok (data_wires job)) (rows job) ≡ true

module _ (job : List ℕ) where
  sized : size_ok job ≡ true
      → ((data_wires job ≡ 3) × ((length job ≡ 20) ⊎ (length job ≡ 22))) ⊎ ((data_wires job ≡ 4) × ((length job ≡ 28) ⊎ (length job ≡ 30)))
  unfolding size_ok
  sized h = ⊎_elim (λ e. inl (with_length 3 20 22 e)) (λ e. inr (with_length 4 28 30 e)) (either_cases (size_of 3 20 22) (size_of 4 28 30) h)
    where
      size_of : ℕ → ℕ → ℕ → Bool
      size_of n k l = both (eqb (data_wires job) n) (either (eqb (length job) k) (eqb (length job) l))

      with_length : (n k l : ℕ) → size_of n k l ≡ true → (data_wires job ≡ n) × ((length job ≡ k) ⊎ (length job ≡ l))
      with_length n k l e =
          let p = both_parts (eqb (data_wires job) n) (either (eqb (length job) k) (eqb (length job) l)) e in (
            eqb-true (data_wires job) n p.0,
            ⊎_elim (λ e. inl (eqb-true (length job) k e)) (λ e. inr (eqb-true (length job) l e))
                (either_cases (eqb (length job) k) (eqb (length job) l) p.1),
          )

  -- the rows are the bytes after the first 12 or 14
  rows_of : (k : ℕ) → length job ≡ k → length (rows job) ≡ k - pick (either (eqb k 22) (eqb k 30)) 14 12
  unfolding longer
  rows_of k e = length-drop (pick (longer job) 14 12) job ∙ ap (λ n. n - pick (either (eqb n 22) (eqb n 30)) 14 12) e

  -- in a longer job a gate of three controls lasts at least 1
  slow_at : durations_ok job ≡ true → (n m : ℕ) → n ≤ most_controls job → 1 ≤ weight_for (durations job) (kind_for n m)
  unfolding durations_ok
  slow_at h n m =
      let d = durations job in
      let last = implies (longer job) (leb 1 d.cccnot) in
      let p = both_parts (leb 1 d.not) (both (leb 1 d.cnot) (both (leb 1 d.toffoli) last)) h in
      let q = both_parts (leb 1 d.cnot) (both (leb 1 d.toffoli) last) p.1 in
      let r = both_parts (leb 1 d.toffoli) last q.1 in
      by_count (leb-true 1 d.not p.0) (leb-true 1 d.cnot q.0) (leb-true 1 d.toffoli r.0) (fourth (longer job) r.1) n m
    where
      fourth : (four : Bool) → implies four (leb 1 (durations job).cccnot) ≡ true → 3 ≤ pick four 3 2 → 1 ≤ (durations job).cccnot
      fourth true e h = leb-true 1 (durations job).cccnot e
      fourth false e h = absurd (omega arith)

      by_count : 1 ≤ (durations job).not → 1 ≤ (durations job).cnot → 1 ≤ (durations job).toffoli
          → (3 ≤ most_controls job → 1 ≤ (durations job).cccnot) → (n m : ℕ) → n ≤ most_controls job → 1 ≤ weight_for (durations job) (kind_for n m)
      by_count u v w x zero m h = u
      by_count u v w x (suc zero) m h = v
      by_count u v w x (suc (suc zero)) m h = w
      by_count u v w x (suc (suc (suc n))) m h = x (omega arith)

  pub sound_job : job_code job ≡ 0 → SoundJob job
  unfolding job_code head_ok limit_ok rows_ok weight_of gate_of
  sound_job h =
      let k₁ = rule_kept (job_length_ok job) 1 _ (lit< tt) h in
      let k₂ = rule_kept (size_ok job) 2 _ (lit< tt) k₁.1 in
      let k₃ = rule_kept (head_ok job) 3 _ (lit< tt) k₂.1 in
      let k₄ = rule_kept (limit_ok job) 4 _ (lit< tt) k₃.1 in
      let k₅ = rule_kept (durations_ok job) 5 _ (lit< tt) k₄.1 in
      let k₆ = rule_kept (rows_ok job) 6 0 (lit< tt) k₅.1 in
      record {
        width = ⊎_elim (λ e. inl e.0) (λ e. inr e.0) (sized k₂.0);
        spare = leb-true (ancillas job) 1 (both_left (leb (ancillas job) 1) (eqb (get_or job 0 0 % 4) 0) k₃.0);
        limit = leb-true (gate_limit job) 12 k₄.0;
        slow = λ w b l. slow_at k₅.0 (ones (mask_of b)) (mask_of b) (parts (most_controls job) w b l).few;
        rows_many =
            ⊎_elim (λ e. rw e.0 (⊎_elim (rows_of 20) (rows_of 22) e.1)) (λ e. rw e.0 (⊎_elim (rows_of 28) (rows_of 30) e.1))
            (sized k₂.0);
        rows_kept = k₆.0;
      }

pub wires_within : (job : List ℕ) → job_code job ≡ 0 → (3 ≤ wires job) × (wires job ≤ 5)
wires_within job h = let s = sound_job job h in three_to_five job s.width s.spare
