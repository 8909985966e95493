-- The problems of a job under which some wanted bits may be missed: by columns as the walk takes them, and by rows as they are defined.
use mathlib.Core.Path.{◌≡◌, sym}
use mathlib.Core.List.{List}
use Prim.Native.Nat.{ℕ}
use mathlib.Core.Bool.{true}
use Rattle.logic.specs.Lists.{all_of, Among}
use Rattle.logic.proofs.Members.{among_all}
use Rattle.gate.specs.Gates.{lawful}
use Rattle.gate.proofs.Widen.{widen}
use Rattle.circuit.specs.run.Inner.{columns_after}
use Rattle.table.specs.Rows.{realizes}
use Rattle.record.specs.JobRules.{job_code}
use Rattle.record.specs.job_fields.Jobs.{longer, most_controls, data_wires, wires, rows}
use Rattle.record.proofs.Kept.{sound_job, wires_within}
use Rattle.record.proofs.job_fields.Widths.{two_or_three}
use Rattle.columns.specs.Wanted.{wanted_of, start_columns}
use Rattle.problem.specs.Problems.{Problem, first_good}
use Rattle.near_misses.specs.misses.Misses.{approximates, missing_at_most}
use Rattle.near_misses.specs.misses.Columns.{nearly}
use Rattle.near_misses.proofs.misses.Rows.{none_realizes}
use Rattle.near_misses.proofs.misses.Counted.{columned}
use Rattle.near_misses.proofs.misses.Fewest.{same_first}
use Rattle.near_misses.specs.near_offer.Loose.{loosened}
use Rattle.outcomes.specs.Outcomes.{own_set, problem_over, problem_of}
use Rattle.search.specs.Inner.{task_of}
use Rattle.outcomes.proofs.Facts.{own_kept}
use Rattle.search.proofs.Posed.{rows_few}

-- the problem of a job for which up to k wanted bits may be missed
abbrev pub near : List ℕ → ℕ → Problem
near job k = missing_at_most (data_wires job) (rows job) k (problem_of job)

module _ (job : List ℕ) where
  -- to miss nothing is what the search asks for
  pub none_first : first_good (near job 0) ≡ first_good (problem_of job)
  unfolding problem_over
  none_first =
      same_first (problem_of job) (approximates (data_wires job) (rows job) 0) (realizes (data_wires job) (rows job))
      (λ p l a. none_realizes (data_wires job) (rows job) p l)

  module _ (sound : job_code job ≡ 0) where
    known : (l : List ℕ) → Among (own_set job).gates l → all_of (lawful 3 5) l ≡ true
    known l a =
        among_all (lawful 3 5) (own_set job).gates l
        (λ g m. widen (most_controls job) (wires job) 3 5 g (two_or_three (longer job)).1 (wires_within job sound).1 (own_kept job g m)) a

    pub walked_first : (k : ℕ) → first_good (loosened (task_of job) k (problem_of job)) ≡ first_good (near job k)
    unfolding problem_over task_of
    walked_first k =
        same_first (problem_of job) (λ (p : ℕ) (l : List ℕ). nearly (wanted_of (rows job)) (data_wires job) k (columns_after l start_columns) p)
        (approximates (data_wires job) (rows job) k)
        (λ p l a. sym (columned (rows job) l (rows_few job sound) (known l a) p (data_wires job) k (sound_job job sound).width))
