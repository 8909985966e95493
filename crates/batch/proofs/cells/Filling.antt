-- What the search of one job leaves in its cell and status byte, and what the search of the rest leaves after it.
use mathlib.Core.Path.{◌≡◌, refl, sym, ap, ap₂, ◌∙◌}
use mathlib.Core.List.{List, [], ◌∷◌, ◌++◌, append-nil}
use Prim.Native.Nat.{ℕ, ◌+◌, ◌-◌, ◌*◌, ◌≤◌}
use native.Mathlib.Omega.{arith}
use borrow.Rule.Slice.PartMut.{put_mid, Post-is}
use lib.ListN.{length, take, drop, set}
use lib.Seq.{take_at, drop_at, drop-length, length-take-le}
use Rattle.logic.specs.Answers.{Answer, refused, answered}
use Rattle.std.specs.Prelude.{Result, Ok, Err}
use Rattle.record.specs.Answers.{code_of, reply}
use Rattle.record.specs.declared.refusal.Refusal.{Refusal}
use Rattle.outcomes.specs.declared.Reported.{Reported}
use Rattle.outcomes.specs.Outcomes as outcomes
use Rattle.outcomes.specs.Outcomes.{reported, written}
use Rattle.batch.specs.cutting.Records.{record_size, records}
use Rattle.batch.specs.cells.Batches.{alone_of, status_of, cells_after, statuses_after}
use Rattle.batch.proofs.cutting.Cutting.{rest_is, one_here}
use Rattle.batch.proofs.cells.Cells.{cell_stays}

-- the status that goes with an answer of the search
pub status_is : (o : Answer outcomes.Found) (r : Result Reported Refusal) → reply r ≡ reported o → code_of r ≡ status_of o
status_is (refused k) (Err e) h = cc
status_is (answered f) (Err e) h = let z : ◌≡◌ {A = ℕ} 0 1 = cc in absurd (omega arith)
status_is (refused k) (Ok x) h = let z : ◌≡◌ {A = ℕ} 0 1 = cc in absurd (omega arith)
status_is (answered f) (Ok x) h = refl

-- a list whose part from a on was lent and came back
tail_put : (a : ℕ) (xs ys : List ℕ) → a ≤ length xs → put_mid a (length xs - a) xs ys ≡ take a xs ++ ys
tail_put a xs ys h =
    ap (λ (z : List ℕ). take a xs ++ (ys ++ z)) (Post-is a (length xs) xs h ∙ drop-length xs) ∙ ap (λ (z : List ℕ). take a xs ++ z) (append-nil ys)

-- no record: nothing is touched
pub untouched : (rs : List (List ℕ)) (answers statuses : List ℕ) → rs ≡ [] → (answers ≡ cells_after rs answers) × (statuses ≡ statuses_after rs statuses)
unfolding cells_after statuses_after
untouched rs answers statuses e =
    (ap (λ (x : List (List ℕ)). cells_after x answers) (sym e), ap (λ (x : List (List ℕ)). statuses_after x statuses) (sym e))

-- a record of so many bytes at the front, and the rest of the bytes as the next call has them
module _ (most : ℕ) (jobs : List ℕ) (size : ℕ) (asked : most ≡ 0 → ⊥) (sized : size ≡ record_size jobs) (there : size ≡ 0 → ⊥) where
  abbrev rest : List (List ℕ)
  rest = records (most - 1) (take (length jobs - size) (drop size jobs))

  split_off : records most jobs ≡ take size jobs ∷ rest
  split_off = one_here most jobs (most - 1) (omega arith) (λ z. there (sized ∙ z)) ∙ rw (← sized, rest_is jobs size)

  pub enough : (answers statuses : ℕ) → 15 * length (records most jobs) ≤ answers → length (records most jobs) ≤ statuses
      → (15 + 15 * length rest ≤ answers) × (1 + length rest ≤ statuses)
  enough answers statuses a s = let e = ap length split_off in (omega arith, omega arith)

  pub cells_grown : (answers first next : List ℕ) → 15 ≤ length answers → length first ≡ length answers
      → first ≡ written (alone_of (take size jobs)) (take 15 answers) ++ drop 15 answers
      → next ≡ cells_after rest (take (length first - 15) (drop 15 first))
      → put_mid 15 (length first - 15) first next ≡ cells_after (records most jobs) answers
  unfolding cells_after
  cells_grown answers first next h same w e =
      let cell = written (alone_of (take size jobs)) (take 15 answers) in
      let n = cell_stays (take size jobs) (take 15 answers) (length-take-le 15 answers h) in
      let front : take 15 first ≡ cell = ap (take 15) w ∙ take_at cell (drop 15 answers) 15 n in
      let back : drop 15 first ≡ drop 15 answers = ap (drop 15) w ∙ drop_at cell (drop 15 answers) 15 n in
      tail_put 15 first next (omega arith)
      ∙ ap₂ (λ (x y : List ℕ). x ++ y) front (e ∙ ap (cells_after rest) (rest_is first 15 ∙ back))
      ∙ ap (λ (x : List (List ℕ)). cells_after x answers) (sym split_off)

  pub statuses_grown : (statuses first next : List ℕ) → 1 ≤ length statuses
      → first ≡ set statuses 0 (status_of (alone_of (take size jobs)))
      → next ≡ statuses_after rest (take (length first - 1) (drop 1 first))
      → put_mid 1 (length first - 1) first next ≡ statuses_after (records most jobs) statuses
  unfolding statuses_after
  statuses_grown [] first next h w e = absurd (omega arith)
  statuses_grown (x ∷ l) first next h w e =
      let status = status_of (alone_of (take size jobs)) in
      let front : take 1 first ≡ status ∷ [] = ap (take 1) w in
      let back : drop 1 first ≡ l = ap (drop 1) w in
      let long = ap length w in
      tail_put 1 first next (omega arith)
      ∙ ap₂ (λ (y z : List ℕ). y ++ z) front (e ∙ ap (statuses_after rest) (rest_is first 1 ∙ back))
      ∙ ap (λ (y : List (List ℕ)). statuses_after y (x ∷ l)) (sym split_off)
