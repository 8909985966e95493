-- Records put back to back, and what is cut off again.
use mathlib.Core.Path.{◌≡◌, refl, sym, ap, subst, ◌∙◌}
use mathlib.Core.Bool.{Bool, true, false}
use mathlib.Core.Logic.{◌⊎◌, inl, inr, ⊎_elim}
use mathlib.Core.List.{List, [], ◌∷◌, ◌++◌, flat_map}
use Prim.Native.Nat.{ℕ, zero, suc, ◌+◌, ◌*◌, ◌/◌, ◌<◌, ◌≤◌}
use native.Mathlib.Decide.{ℕ_discrete}
use native.Mathlib.Omega.{arith}
use borrow.Author.Tests.{ne_eqb, leb-true}
use lib.Dec.{leb}
use lib.ListN.{length, get_or, take, drop}
use lib.Seq.{get_or-take, length-take-le, take-add}
use Rattle.logic.specs.Lists.{total}
use Rattle.record.specs.job_fields.Jobs.{data_wires}
use Rattle.batch.specs.cutting.Records.{size_said, record_size, records, all_cut}
use Rattle.batch.proofs.cutting.Cutting.{said_three, said_four, said_none, none_here, one_here}

-- a record as a batch has it
abbrev pub Shaped : List ℕ → Type 0
Shaped r = ((data_wires r ≡ 3) × (length r ≡ 20)) ⊎ ((data_wires r ≡ 4) × (length r ≡ 28))

-- records one after the other
abbrev pub joined : List (List ℕ) → List ℕ
joined rs = flat_map (λ (r : List ℕ). r) rs

-- a record that can be cut off has the size that its first bits say, and all of it is there
cut_whole : (l : List ℕ) → (record_size l ≡ 0 → ⊥) → (record_size l ≡ size_said l) × (size_said l ≤ length l)
unfolding record_size
cut_whole l n = by_fit (leb (size_said l) (length l)) refl
  where
    by_fit : (t : Bool) → leb (size_said l) (length l) ≡ t → (record_size l ≡ size_said l) × (size_said l ≤ length l)
    by_fit true e = (rw e, leb-true (size_said l) (length l) e)
    by_fit false e = absurd (n (rw e))

-- the first bytes of a list say how many data wires as the list does
same_wires_law : (n : ℕ) (l : List ℕ) → 0 < n → data_wires (take n l) ≡ data_wires l
unfolding data_wires
same_wires_law n l h = ap (λ (b : ℕ). b / 32) (get_or-take n l 0 0 h)

front_shape : (l : List ℕ) → (record_size l ≡ 0 → ⊥) → Shaped (take (record_size l) l)
front_shape l n = by_wires (ℕ_discrete (data_wires l) 3) (ℕ_discrete (data_wires l) 4)
  where
    whole : (record_size l ≡ size_said l) × (size_said l ≤ length l)
    whole = cut_whole l n

    long : length (take (record_size l) l) ≡ record_size l
    long = let e = whole.0 in let f = whole.1 in length-take-le (record_size l) l (omega arith)

    wires : data_wires (take (record_size l) l) ≡ data_wires l
    wires = same_wires_law (record_size l) l (omega arith)

    by_wires : Dec (data_wires l ≡ 3) → Dec (data_wires l ≡ 4) → Shaped (take (record_size l) l)
    by_wires (yes e) d = inl (wires ∙ e, long ∙ whole.0 ∙ sym (said_three l e))
    by_wires (no a) (yes e) = inr (wires ∙ e, long ∙ whole.0 ∙ sym (said_four l e))
    by_wires (no a) (no b) = absurd (n (whole.0 ∙ sym (said_none l a b)))

-- every record that is cut off is one
pub shape : (most : ℕ) (l : List ℕ) (i : ℕ) → i < length (records most l) → Shaped (get_or (records most l) i [])
unfolding records
shape zero l i h = absurd (omega arith)
shape (suc most) l i h = by_size (λ j k. shape most (drop (record_size l) l) j k) (ℕ_discrete (record_size l) 0)
  where
    by_place : ((j : ℕ) → j < length (records most (drop (record_size l) l)) → Shaped (get_or (records most (drop (record_size l) l)) j []))
        → (record_size l ≡ 0 → ⊥) → (i : ℕ) → i < length (take (record_size l) l ∷ records most (drop (record_size l) l))
        → Shaped (get_or (take (record_size l) l ∷ records most (drop (record_size l) l)) i [])
    by_place later n zero h = front_shape l n
    by_place later n (suc i) h = later i (omega arith)

    by_size : ((j : ℕ) → j < length (records most (drop (record_size l) l)) → Shaped (get_or (records most (drop (record_size l) l)) j []))
        → Dec (record_size l ≡ 0) → Shaped (get_or (records (suc most) l) i [])
    by_size later (yes e) = let z = ap length (none_here (suc most) l e) in absurd (omega arith)
    by_size later (no n) =
        let e = one_here (suc most) l most refl n in
        subst (λ (rs : List (List ℕ)). Shaped (get_or rs i [])) (sym e) (by_place later n i (subst (λ (rs : List (List ℕ)). i < length rs) e h))

-- what is cut off, put back to back, is the front of what was there
pub joined_front : (most : ℕ) (l : List ℕ) → joined (records most l) ≡ take (total length (records most l)) l
unfolding records total flat_map
joined_front zero l = refl
joined_front (suc most) l = by_size (joined_front most (drop (record_size l) l)) (ℕ_discrete (record_size l) 0)
  where
    by_size : joined (records most (drop (record_size l) l)) ≡ take (total length (records most (drop (record_size l) l))) (drop (record_size l) l)
        → Dec (record_size l ≡ 0)
        → joined (records (suc most) l) ≡ take (total length (records (suc most) l)) l
    by_size later (yes e) = subst (λ (rs : List (List ℕ)). joined rs ≡ take (total length rs) l) (sym (none_here (suc most) l e)) refl
    by_size later (no n) =
        let size = record_size l in
        let rest = records most (drop size l) in
        let w = cut_whole l n in
        let a = w.0 in
        let b = w.1 in
        let long : length (take size l) ≡ size = length-take-le size l (omega arith) in
        subst (λ (rs : List (List ℕ)). joined rs ≡ take (total length rs) l) (sym (one_here (suc most) l most refl n))
        (ap (λ (x : List ℕ). take size l ++ x) later ∙ sym (take-add size (total length rest) l)
        ∙ ap (λ (k : ℕ). take (k + total length rest) l) (sym long))

-- so many records have at most 28 bytes each
bytes_most : (most : ℕ) (l : List ℕ) → total length (records most l) ≤ 28 * most
unfolding records total
bytes_most zero l = omega arith
bytes_most (suc most) l = by_size (bytes_most most (drop (record_size l) l)) (ℕ_discrete (record_size l) 0)
  where
    by_size : total length (records most (drop (record_size l) l)) ≤ 28 * most → Dec (record_size l ≡ 0) → total length (records (suc most) l) ≤ 28 * suc most
    by_size later (yes e) = let z = ap (total length) (none_here (suc most) l e) in omega arith
    by_size later (no n) =
        let z = ap (total length) (one_here (suc most) l most refl n) in
        let s : length (take (record_size l) l) ≤ 28
        = ⊎_elim (λ e. let f = e.1 in omega arith) (λ e. let f = e.1 in omega arith) (front_shape l n) in
        omega arith

-- so more bytes than 64 records have are no batch
pub too_long : (jobs : List ℕ) → 1792 < length jobs → all_cut jobs ≡ false
unfolding all_cut
too_long jobs h = let b = bytes_most 64 jobs in ne_eqb (total length (records 64 jobs)) (length jobs) (λ e. omega arith)
