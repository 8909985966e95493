-- What is printed for two jobs by what their searches find. A job too long to be sound is refused by its length, so its later bytes decide
-- nothing.
use mathlib.Core.Path.{◌≡◌, refl, ◌∙◌}
use mathlib.Core.List.{List}
use Prim.Native.Nat.{ℕ, ◌<◌}
use native.Mathlib.Omega.{arith}
use borrow.Author.Tests.{ne_eqb}
use lib.ListN.{length, take}
use Rattle.logic.specs.Rules.{and_then}
use Rattle.logic.specs.Answers.{Answer, refused, answered}
use Rattle.logic.proofs.Chain.{and_then_zero}
use Rattle.logic.proofs.Prefixes.{told_by}
use Rattle.record.specs.JobRules.{longest_job, job_code}
use Rattle.record.proofs.Long.{long_job}
use Rattle.outcomes.specs.Outcomes.{Found, reported, search_of}
use Rattle.printed.specs.job_line.Lines.{line_of}
use Rattle.reports.specs.refusal.Report.{refused_text}
use Rattle.sensitivity.specs.alike.Alike.{compare_code}
use Rattle.sensitivity.specs.Calls.{change_between, price_change}
use Rattle.printed.specs.differences.Compare.{compare_text, TellingPair, printed_change}
use Rattle.printed.specs.differences.Inner.{both_text}
use Rattle.printed.specs.differences.Differences.{both_lines}

-- a rule broken
pub when_broken : (old new : List ℕ) (code : ℕ) → code ≡ compare_code old new → (code ≡ 0 → ⊥) → compare_text old new ≡ refused_text code
unfolding compare_text price_change
when_broken old new code e n = rw (← e, ne_eqb code 0 n)

-- no rule broken
module _ (old new : List ℕ) where
  by_answers : (o n : Answer Found) → search_of old 15 ≡ o → search_of new 15 ≡ n → printed_change (change_between (reported o) (reported n)) old new ≡ both_text o n
  unfolding line_of both_lines
  by_answers (refused code) n e f = refl
  by_answers (answered g) (refused code) e f = refl
  by_answers (answered g) (answered h) e f = rw (e, f)

  pub when_kept : compare_code old new ≡ 0 → compare_text old new ≡ both_text (search_of old 15) (search_of new 15)
  unfolding compare_text price_change
  when_kept z = rw z (by_answers (search_of old 15) (search_of new 15) refl refl)

-- a job longer than any sound one
long_old : (new old : List ℕ) → longest_job < length old → compare_text old new ≡ refused_text 1
unfolding compare_code
long_old new old h = when_broken old new 1 (rw (long_job old h)) (λ z. omega arith)

long_new : (old new : List ℕ) → longest_job < length new → compare_text old new ≡ refused_text (and_then (job_code old) 1)
unfolding compare_code
long_new old new h =
    when_broken old new (and_then (job_code old) 1) (rw (long_job new h))
    (λ z. let e = (and_then_zero (job_code old) 1 z).1 in omega arith)

pub telling_pair : (room : ℕ) → longest_job < room → TellingPair room
telling_pair room h old new =
    told_by (λ (j : List ℕ). compare_text j (take room new)) (refused_text 1) longest_job (long_old (take room new)) room h old
    ∙ told_by (λ (j : List ℕ). compare_text old j) (refused_text (and_then (job_code old) 1)) longest_job (long_new old) room h new
