-- The two ways out of a batch: a rule broken, or every job searched for.
use mathlib.Core.Path.{◌≡◌, ap, ◌∙◌}
use mathlib.Core.List.{List}
use Prim.Native.Nat.{ℕ, ◌*◌, ◌≤◌}
use borrow.Author.Tests.{eq-eqb, ne_eqb, leb-true}
use lib.Dec.{leb, lit<}
use lib.ListN.{length}
use Rattle.logic.specs.Rules.{rule}
use native.Mathlib.Omega.{arith}
use Rattle.record.specs.Answers.{number}
use Rattle.record.specs.declared.refusal.Refusal.{Refusal}
use Rattle.record.proofs.Refusals.{number_pos}
use Rattle.logic.specs.Answers.{refused, answered}
use Rattle.logic.proofs.Chain.{both_parts, rule_kept}
use Rattle.batch.specs.cutting.Records.{records_of, count_of, all_cut}
use Rattle.batch.specs.cells.Batches.{room_ok, batch_code, batch_of, cells_after, statuses_after, answers_left, statuses_left}

-- no rule broken: there is a cell and a status byte for each record
pub rooms : (jobs : List ℕ) (answers statuses : ℕ) → batch_code jobs answers statuses ≡ 0
    → (15 * count_of jobs ≤ answers) × (count_of jobs ≤ statuses)
unfolding batch_code room_ok
rooms jobs answers statuses h =
    let k = rule_kept (all_cut jobs) 26 (rule (room_ok jobs answers statuses) 27 0) (lit< tt) h in
    let m = rule_kept (room_ok jobs answers statuses) 27 0 (lit< tt) k.1 in
    let p = both_parts (leb (15 * count_of jobs) answers) (leb (count_of jobs) statuses) m.0 in
    (leb-true (15 * count_of jobs) answers p.0, leb-true (count_of jobs) statuses p.1)

module _ (jobs answers statuses : List ℕ) where
  pub refusing : (batch_code jobs (length answers) (length statuses) ≡ 0 → ⊥)
      → (refused (batch_code jobs (length answers) (length statuses)) ≡ batch_of jobs (length answers) (length statuses))
      × ((answers ≡ answers_left jobs answers statuses) × (statuses ≡ statuses_left jobs answers statuses))
  unfolding batch_of answers_left statuses_left
  refusing n =
      let e = ne_eqb (batch_code jobs (length answers) (length statuses)) 0 n in
      (rw e, (rw e, rw e))

  -- the same, where the number of the rule is known
  pub refused_with : (e : Refusal) → number e ≡ batch_code jobs (length answers) (length statuses)
      → (refused (number e) ≡ batch_of jobs (length answers) (length statuses))
      × ((answers ≡ answers_left jobs answers statuses) × (statuses ≡ statuses_left jobs answers statuses))
  refused_with e h = let r = refusing (λ z. absurd (omega (arith, number_pos e))) in (ap refused h ∙ r.0, r.1)

  pub searching : batch_code jobs (length answers) (length statuses) ≡ 0
      → (answered (count_of jobs) ≡ batch_of jobs (length answers) (length statuses))
      × ((cells_after (records_of jobs) answers ≡ answers_left jobs answers statuses)
      × (statuses_after (records_of jobs) statuses ≡ statuses_left jobs answers statuses))
  unfolding batch_of answers_left statuses_left
  searching z =
      let e = eq-eqb (batch_code jobs (length answers) (length statuses)) 0 z in
      (rw e, (rw e, rw e))
