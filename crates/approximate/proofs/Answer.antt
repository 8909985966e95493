-- For the proof of `closest`: the search's answer for the first choice that misses the fewest bits, with its misses, is the answer defined.
use mathlib.Core.Path.{◌≡◌, refl, sym, ap, ◌∙◌}
use mathlib.Core.List.{List}
use mathlib.Core.Option.{some}
use Prim.Native.Nat.{ℕ}
use borrow.Author.Tests.{ne_eqb}
use lib.ListN.{take}
use Rattle.std.specs.Prelude.{Some, None}
use native.Mathlib.Omega.{arith}
use Rattle.record.specs.Answers.{number}
use Rattle.record.specs.declared.refusal.Refusal.{Refusal}
use Rattle.record.proofs.Refusals.{number_pos}
use Rattle.logic.specs.Answers.{refused}
use Rattle.record.specs.job_fields.Jobs.{data_wires, rows, price_of, duration_of}
use Rattle.circuit.specs.declared.measures.Measures.{Measures}
use Rattle.circuit.specs.measures.Measures.{measures_of}
use Rattle.problem.specs.declared.order.Best.{Best}
use Rattle.problem.specs.order.View.{choice, view}
use Rattle.near_misses.specs.misses.Misses.{missed_in}
use Rattle.near_misses.proofs.misses.Fewest.{closest_misses}
use Rattle.outcomes.specs.Outcomes.{problem_of, reported}
use Rattle.record.specs.pair_codes.Codes.{search_code}
use Rattle.outcomes.specs.Inner.{told_of}
use Rattle.approximate.specs.Calls.{fewest_for, closest_for, close_of, closest_of, circuit_in, with_misses, told}

module _ (job : List ℕ) (room : ℕ) where
  pub by_code : (search_code job room ≡ 0 → ⊥) → closest_of job room ≡ refused (search_code job room)
  unfolding closest_of
  by_code n = rw (ne_eqb (search_code job room) 0 n)

  -- a rule was broken
  pub refused_is : (e : Refusal) → number e ≡ search_code job room → closest_of job room ≡ refused (number e)
  refused_is e h = by_code (λ z. absurd (omega (arith, number_pos e))) ∙ ap refused (sym h)

  pub past : search_code job room ≡ 0 → closest_of job room ≡ close_of job (closest_for job)
  unfolding closest_of
  past z = rw z

  module _ (kept : search_code job room ≡ 0) where
    -- nothing was found
    pub none_is : view None ≡ closest_for job → closest_of job room ≡ refused 14
    unfolding view
    none_is first = past kept ∙ ap (close_of job) (sym first)

    module _ (b : Best) (k : ℕ) (first : view (Some b) ≡ closest_for job) (few : k ≡ fewest_for job)
        (m : Measures) (measured : m ≡ measures_of (price_of job) (duration_of job) (take b.len b.path)) where
      missed : k ≡ missed_in (rows job) (choice b)
      unfolding view
      missed = few ∙ sym (closest_misses (data_wires job) (rows job) (problem_of job) (choice b) (sym first))

      close_is : closest_of job room ≡ close_of job (some (choice b))
      unfolding view
      close_is = past kept ∙ ap (close_of job) (sym first)

      pub circuit_is : told_of job m (view (Some b)) ≡ circuit_in (closest_of job room)
      unfolding view choice
      circuit_is = rw (close_is, measured) refl

      -- told with as many misses, what the search says is the answer
      pub told_is : with_misses k (reported (told_of job m (view (Some b)))) ≡ told (closest_of job room)
      unfolding view choice
      told_is = rw (close_is, measured, missed) refl
