-- What a batch promises, in a caller's words.
use mathlib.Core.Path.{◌≡◌, sym, ap, ap₂, ◌∙◌}
use mathlib.Core.Bool.{false}
use mathlib.Core.Logic.{◌⊎◌, ⊎_elim}
use mathlib.Core.List.{List, [], ◌++◌}
use Prim.Native.Nat.{ℕ, ◌*◌, ◌<◌, ◌≤◌}
use native.Mathlib.Decide.{ℕ_discrete}
use native.Mathlib.Omega.{arith}
use borrow.Author.Tests.{eqb-true, le-leb}
use lib.Dec.{lit<}
use lib.ListN.{length, get_or, drop}
use lib.Seq.{take_all}
use Rattle.logic.specs.Rules.{rule}
use Rattle.logic.specs.Lists.{total}
use Rattle.logic.specs.Answers.{Answer, refused, answered}
use Rattle.logic.proofs.Answers.{answered_is, answered_with, refused_is}
use Rattle.logic.proofs.Chain.{rule_kept, rule_never}
use Rattle.record.specs.job_fields.Jobs.{data_wires, longer}
use Rattle.outcomes.specs.Outcomes.{Found, search_of, written}
use Rattle.outcomes.proofs.Facts.{search_never}
use Rattle.batch.specs.cutting.Records.{size_said, record_size, records, records_of, count_of, job_at, all_cut}
use Rattle.batch.specs.cells.Batches.{room_ok, batch_code, batch_of, status_of, cells_after, statuses_after, answers_left, statuses_left, cell_at}
use Rattle.batch.proofs.cells.Cells.{cells_at, cells_beyond, status_at, statuses_beyond}
use Rattle.batch.proofs.cells.Codes.{rooms, refusing, searching}
use Rattle.batch.proofs.cutting.Joined.{Shaped, shape, joined, joined_front}
use Rattle.batch.proofs.cells.Statuses.{status_never}

-- A batch of no bytes has 0 jobs.
pub no_jobs : (answers statuses : ℕ) → batch_of [] answers statuses ≡ answered 0
unfolding batch_of batch_code all_cut room_ok records record_size size_said total data_wires
no_jobs answers statuses = rw (le-leb 0 answers (omega arith), le-leb 0 statuses (omega arith))

-- A batch that is refused leaves both buffers as they were, every byte.
pub refused_whole : (jobs answers statuses : List ℕ) (code : ℕ) → batch_of jobs (length answers) (length statuses) ≡ refused code
    → (answers_left jobs answers statuses ≡ answers) × (statuses_left jobs answers statuses ≡ statuses)
unfolding batch_of
refused_whole jobs answers statuses code h = by_code (ℕ_discrete (batch_code jobs (length answers) (length statuses)) 0)
  where
    by_code : Dec (batch_code jobs (length answers) (length statuses) ≡ 0)
        → (answers_left jobs answers statuses ≡ answers) × (statuses_left jobs answers statuses ≡ statuses)
    by_code (yes e) =
        let w = answered_with (batch_code jobs (length answers) (length statuses)) (count_of jobs) e in
        let z : ◌≡◌ {A = ℕ} 0 1 = cc in
        absurd (omega arith)
    by_code (no n) = let r = refusing jobs answers statuses n in (sym r.1.0, sym r.1.1)

-- A batch is never refused with 11.
pub batch_never : (jobs : List ℕ) (answers statuses : ℕ) → batch_of jobs answers statuses ≡ refused 11 → ⊥
unfolding batch_of batch_code
batch_never jobs answers statuses h =
    rule_never 11 (all_cut jobs) 26 _ (λ e. omega arith)
    (rule_never 11 (room_ok jobs answers statuses) 27 0 (λ e. omega arith) (λ e. omega arith))
    (refused_is (batch_code jobs answers statuses) (count_of jobs) 11 h)

-- A batch that is answered:
module _ (jobs answers statuses : List ℕ) (count : ℕ) (done : batch_of jobs (length answers) (length statuses) ≡ answered count) where
  told : (batch_code jobs (length answers) (length statuses) ≡ 0) × (count ≡ count_of jobs)
  unfolding batch_of
  told = answered_is (batch_code jobs (length answers) (length statuses)) (count_of jobs) count done

  room : 15 * count_of jobs ≤ length answers
  room = (rooms jobs (length answers) (length statuses) told.0).0

  left : (cells_after (records_of jobs) answers ≡ answers_left jobs answers statuses)
      × (statuses_after (records_of jobs) statuses ≡ statuses_left jobs answers statuses)
  left = (searching jobs answers statuses told.0).1

  counted : (i : ℕ) → i < count → i < count_of jobs
  counted i h = rw told.1 at h

  -- its records stand back to back, and there is no byte besides,
  pub back_to_back : joined (records_of jobs) ≡ jobs
  unfolding batch_code all_cut
  back_to_back =
      let k = rule_kept (all_cut jobs) 26 (rule (room_ok jobs (length answers) (length statuses)) 27 0) (lit< tt) told.0 in
      let e = eqb-true (total length (records_of jobs)) (length jobs) k.0 in
      joined_front 64 jobs ∙ take_all (total length (records_of jobs)) jobs (omega arith)

  -- the cell and the status of each job are those of the search on its bytes alone,
  pub cell_alone : (i : ℕ) → i < count → cell_at i (answers_left jobs answers statuses) ≡ written (search_of (job_at jobs i) 15) (cell_at i answers)
  cell_alone i h = ap (cell_at i) (sym left.0) ∙ cells_at (records_of jobs) answers i (counted i h) room

  pub status_alone : (i : ℕ) → i < count → get_or (statuses_left jobs answers statuses) i 0 ≡ status_of (search_of (job_at jobs i) 15)
  status_alone i h = ap (λ (l : List ℕ). get_or l i 0) (sym left.1) ∙ status_at (records_of jobs) statuses i (counted i h)

  -- so a refused job leaves its own cell as it was, and has its number in its status byte,
  pub refused_job : (i code : ℕ) → i < count → search_of (job_at jobs i) 15 ≡ refused code
      → (cell_at i (answers_left jobs answers statuses) ≡ cell_at i answers) × (get_or (statuses_left jobs answers statuses) i 0 ≡ code)
  refused_job i code h e =
      (cell_alone i h ∙ ap (λ (o : Answer Found). written o (cell_at i answers)) e, status_alone i h ∙ ap status_of e)

  -- and a job that is found has its circuit at the start of its cell, and 0 in its status byte;
  pub found_job : (i : ℕ) (f : Found) → i < count → search_of (job_at jobs i) 15 ≡ answered f
      → (cell_at i (answers_left jobs answers statuses) ≡ f.bytes ++ drop (length f.bytes) (cell_at i answers))
      × (get_or (statuses_left jobs answers statuses) i 0 ≡ 0)
  found_job i f h e =
      (cell_alone i h ∙ ap (λ (o : Answer Found). written o (cell_at i answers)) e, status_alone i h ∙ ap status_of e)

  -- no status is 11;
  pub never_eleven : (i : ℕ) → i < count → get_or (statuses_left jobs answers statuses) i 0 ≡ 11 → ⊥
  never_eleven i h e =
      by_answer (search_of (job_at jobs i) 15) (search_never (job_at jobs i) 15) (sym (status_alone i h) ∙ e)
    where
      by_answer : (o : Answer Found) → (o ≡ refused 11 → ⊥) → status_of o ≡ 11 → ⊥
      by_answer (refused code) n k = n (ap refused k)
      by_answer (answered f) n k = omega arith

  -- the bytes beyond the last cell and the last status byte are as they were.
  pub beyond : (drop (15 * count) (answers_left jobs answers statuses) ≡ drop (15 * count) answers)
      × (drop count (statuses_left jobs answers statuses) ≡ drop count statuses)
  beyond =
      let e = told.1 in (
        rw e (ap (drop (15 * count_of jobs)) (sym left.0) ∙ cells_beyond (records_of jobs) answers room),
        rw e (ap (drop (count_of jobs)) (sym left.1) ∙ statuses_beyond (records_of jobs) statuses),
      )

-- Whatever the other jobs are, and wherever it stands: a job in two batches has the same status in both, and the same cell where the two
-- cells held the same.
module _ (jobs answers statuses : List ℕ) (count : ℕ) (done : batch_of jobs (length answers) (length statuses) ≡ answered count) where
  pub same_answer : (others cells states : List ℕ) (many : ℕ) → batch_of others (length cells) (length states) ≡ answered many
      → (i j : ℕ) → i < count → j < many → job_at jobs i ≡ job_at others j → cell_at i answers ≡ cell_at j cells
      → (cell_at i (answers_left jobs answers statuses) ≡ cell_at j (answers_left others cells states))
      × (get_or (statuses_left jobs answers statuses) i 0 ≡ get_or (statuses_left others cells states) j 0)
  same_answer others cells states many finished i j h k e w = (
    cell_alone jobs answers statuses count done i h
        ∙ ap₂ (λ (x y : List ℕ). written (search_of x 15) y) e w
        ∙ sym (cell_alone others cells states many finished j k),
    status_alone jobs answers statuses count done i h
        ∙ ap (λ (x : List ℕ). status_of (search_of x 15)) e
        ∙ sym (status_alone others cells states many finished j k),
  )

-- Batches keep to the shorter records: 20 bytes with three data wires, 28 with four.
pub shorter_only : (jobs : List ℕ) (i : ℕ) → i < count_of jobs → Shaped (job_at jobs i) × (longer (job_at jobs i) ≡ false)
unfolding longer
shorter_only jobs i h =
    let s = shape 64 jobs i h in
    (s, ⊎_elim (λ e. rw e.1) (λ e. rw e.1) s)

-- Its status is never 1, 2 or 13.
pub never_there : (jobs : List ℕ) (i n : ℕ) → i < count_of jobs → (n ≡ 1) ⊎ ((n ≡ 2) ⊎ (n ≡ 13)) → status_of (search_of (job_at jobs i) 15) ≡ n → ⊥
never_there jobs i n h = λ d. status_never (job_at jobs i) (shape 64 jobs i h) n (apart 0 d (λ e. omega arith) (λ e. omega arith) (λ e. omega arith))
    (apart 3 d (λ e. omega arith) (λ e. omega arith) (λ e. omega arith))
    (apart 4 d (λ e. omega arith) (λ e. omega arith) (λ e. omega arith))
    (apart 5 d (λ e. omega arith) (λ e. omega arith) (λ e. omega arith))
    (apart 6 d (λ e. omega arith) (λ e. omega arith) (λ e. omega arith))
    (apart 14 d (λ e. omega arith) (λ e. omega arith) (λ e. omega arith))
  where
    -- a number that is none of the three is not this one
    apart : (k : ℕ) → (n ≡ 1) ⊎ ((n ≡ 2) ⊎ (n ≡ 13)) → (k ≡ 1 → ⊥) → (k ≡ 2 → ⊥) → (k ≡ 13 → ⊥) → k ≡ n → ⊥
    apart k d one two thirteen e = ⊎_elim (λ x. one (e ∙ x)) (λ x. ⊎_elim (λ y. two (e ∙ y)) (λ y. thirteen (e ∙ y)) x) d
