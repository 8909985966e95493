-- The buffers after a batch, cell by cell and byte by byte.
use mathlib.Core.Path.{◌≡◌, refl, sym, ap, ◌∙◌}
use mathlib.Core.Bool.{Bool, true, false}
use mathlib.Core.List.{List, [], ◌∷◌, ◌++◌}
use Prim.Native.Nat.{ℕ, zero, suc, ◌+◌, ◌*◌, ◌<◌, ◌≤◌}
use native.Mathlib.Omega.{arith}
use borrow.Author.Tests.{leb-true, leb-false}
use lib.Dec.{leb}
use lib.ListN.{length, get_or, take, drop, length-append, length-drop}
use lib.Seq.{take_at, drop_at, drop-drop, drop-nil, length-take-le}
use Rattle.logic.specs.Answers.{Answer, refused, answered}
use Rattle.record.proofs.circuit_rules.Sound.{long_circuit}
use Rattle.outcomes.specs.Outcomes.{Found, search_of, written}
use Rattle.outcomes.proofs.Verified.{found_circuit}
use Rattle.batch.specs.cells.Batches.{alone_of, status_of, cells_after, statuses_after, cell_at}

-- a circuit that is found has at most fifteen bytes
found_fits : (job : List ℕ) (room : ℕ) (f : Found) → search_of job room ≡ answered f → length f.bytes ≤ 15
found_fits job room f h = by_length (leb (length f.bytes) 15) refl
  where
    by_length : (t : Bool) → leb (length f.bytes) 15 ≡ t → length f.bytes ≤ 15
    by_length true e = leb-true (length f.bytes) 15 e
    by_length false e =
        let k = long_circuit f.bytes (leb-false (length f.bytes) 15 e) in
        let z = (found_circuit job room f h).circuit_sound_law in
        absurd (omega arith)

-- so a cell stays as long as it is
pub cell_stays : (job cell : List ℕ) → length cell ≡ 15 → length (written (alone_of job) cell) ≡ 15
cell_stays job cell h = by_outcome (alone_of job) refl
  where
    by_outcome : (o : Answer Found) → alone_of job ≡ o → length (written o cell) ≡ 15
    by_outcome (refused code) e = h
    by_outcome (answered f) e =
        omega (arith, length-append f.bytes (drop (length f.bytes) cell), length-drop (length f.bytes) cell, found_fits job 15 f e)

-- the cells of all but the first job are those of the buffer after its first cell
next_cell : (i : ℕ) (l : List ℕ) → cell_at (suc i) l ≡ cell_at i (drop 15 l)
next_cell i l =
    let e : 15 * suc i ≡ 15 + 15 * i = omega arith in
    ap (λ (n : ℕ). take 15 (drop n l)) e ∙ ap (take 15) (sym (drop-drop (15 * i) 15 l))

-- the cell of each job ends as the single call leaves it
pub cells_at : (rs : List (List ℕ)) (answers : List ℕ) (i : ℕ) → i < length rs → 15 * length rs ≤ length answers
    → cell_at i (cells_after rs answers) ≡ written (alone_of (get_or rs i [])) (cell_at i answers)
unfolding cells_after
cells_at [] answers i h room = absurd (omega arith)
cells_at (r ∷ rs) answers zero h room =
    take_at (written (alone_of r) (take 15 answers)) (cells_after rs (drop 15 answers)) 15
    (cell_stays r (take 15 answers) (length-take-le 15 answers (omega arith)))
cells_at (r ∷ rs) answers (suc i) h room =
    next_cell i (written (alone_of r) (take 15 answers) ++ cells_after rs (drop 15 answers))
    ∙ ap (cell_at i) (drop_at (written (alone_of r) (take 15 answers)) (cells_after rs (drop 15 answers)) 15
    (cell_stays r (take 15 answers) (length-take-le 15 answers (omega arith))))
    ∙ cells_at rs (drop 15 answers) i (omega arith) (omega (arith, length-drop 15 answers))
    ∙ ap (written (alone_of (get_or rs i []))) (sym (next_cell i answers))

-- and the bytes after the last cell stay
pub cells_beyond : (rs : List (List ℕ)) (answers : List ℕ) → 15 * length rs ≤ length answers
    → drop (15 * length rs) (cells_after rs answers) ≡ drop (15 * length rs) answers
unfolding cells_after
cells_beyond [] answers room = refl
cells_beyond (r ∷ rs) answers room =
    let e : 15 * suc (length rs) ≡ 15 + 15 * length rs = omega arith in
    let w = written (alone_of r) (take 15 answers) in
    let on : (l : List ℕ) → drop (15 * suc (length rs)) l ≡ drop (15 * length rs) (drop 15 l)
    = λ l. ap (λ (n : ℕ). drop n l) e ∙ sym (drop-drop (15 * length rs) 15 l) in
    on (w ++ cells_after rs (drop 15 answers))
    ∙ ap (drop (15 * length rs)) (drop_at w (cells_after rs (drop 15 answers)) 15 (cell_stays r (take 15 answers) (length-take-le 15 answers (omega arith))))
    ∙ cells_beyond rs (drop 15 answers) (omega (arith, length-drop 15 answers))
    ∙ sym (on answers)

-- the status byte of each job is that of the single call
pub status_at : (rs : List (List ℕ)) (statuses : List ℕ) (i : ℕ) → i < length rs
    → get_or (statuses_after rs statuses) i 0 ≡ status_of (alone_of (get_or rs i []))
unfolding statuses_after
status_at [] statuses i h = absurd (omega arith)
status_at (r ∷ rs) statuses zero h = refl
status_at (r ∷ rs) statuses (suc i) h = status_at rs (drop 1 statuses) i (omega arith)

pub statuses_beyond : (rs : List (List ℕ)) (statuses : List ℕ) → drop (length rs) (statuses_after rs statuses) ≡ drop (length rs) statuses
unfolding statuses_after
statuses_beyond [] statuses = refl
statuses_beyond (r ∷ rs) [] = statuses_beyond rs [] ∙ drop-nil (length rs)
statuses_beyond (r ∷ rs) (x ∷ statuses) = statuses_beyond rs statuses
