-- Cutting records off: the size of the one at the front, and the records before and after it is cut off.
use mathlib.Core.Path.{◌≡◌, refl, sym, ap, ◌∙◌}
use mathlib.Core.List.{List, [], ◌∷◌}
use Prim.Native.Nat.{ℕ, zero, suc, ◌+◌, ◌-◌, ◌<◌, ◌≤◌}
use native.Mathlib.Decide.{ℕ_discrete}
use native.Mathlib.Omega.{arith}
use borrow.Author.Tests.{ne_eqb}
use lib.ListN.{length, get_or, take, drop, length-drop}
use lib.Seq.{take_all, drop-drop, length-take-le}
use Rattle.logic.specs.Lists.{total}
use Rattle.record.specs.job_fields.Jobs.{data_wires}
use Rattle.batch.specs.cutting.Records.{size_said, record_size, records}

module _ (l : List ℕ) where
  pub said_three : data_wires l ≡ 3 → 20 ≡ size_said l
  unfolding size_said
  said_three e = rw e

  pub said_four : data_wires l ≡ 4 → 28 ≡ size_said l
  unfolding size_said
  said_four e = rw e

  pub said_none : (data_wires l ≡ 3 → ⊥) → (data_wires l ≡ 4 → ⊥) → 0 ≡ size_said l
  unfolding size_said
  said_none h k = rw (ne_eqb (data_wires l) 3 h, ne_eqb (data_wires l) 4 k)

-- what is left of a list, as a part of a slice
pub rest_is : (l : List ℕ) (a : ℕ) → take (length l - a) (drop a l) ≡ drop a l
rest_is l a = take_all (length l - a) (drop a l) (omega (arith, length-drop a l))

-- so it is as long as what is left
pub long_rest : (n a : ℕ) (l : List ℕ) → n + a ≤ length l → n ≤ length (take (length l - a) (drop a l))
long_rest n a l h = rw (rest_is l a) (omega (arith, length-drop a l))

module _ (most : ℕ) (l : List ℕ) where
  pub none_asked : most ≡ 0 → records most l ≡ []
  unfolding records
  none_asked e = rw e

  pub none_here : record_size l ≡ 0 → records most l ≡ []
  unfolding records
  none_here e = by_most most
    where
      by_most : (m : ℕ) → records m l ≡ []
      by_most zero = refl
      by_most (suc m) = rw e

  pub one_here : (less : ℕ) → most ≡ suc less → (record_size l ≡ 0 → ⊥)
      → records most l ≡ take (record_size l) l ∷ records less (drop (record_size l) l)
  unfolding records
  one_here less e h = rw (e, ne_eqb (record_size l) 0 h)

-- the first record, and a later one, where there are so many
pub first_is : (most : ℕ) (l : List ℕ) → 0 < length (records most l) → get_or (records most l) 0 [] ≡ take (record_size l) l
first_is zero l h = let e = ap length (none_asked zero l refl) in absurd (omega arith)
first_is (suc most) l h = by_size (ℕ_discrete (record_size l) 0)
  where
    by_size : Dec (record_size l ≡ 0) → get_or (records (suc most) l) 0 [] ≡ take (record_size l) l
    by_size (yes e) = let z = ap length (none_here (suc most) l e) in absurd (omega arith)
    by_size (no n) = ap (λ (rs : List (List ℕ)). get_or rs 0 []) (one_here (suc most) l most refl n)

pub later_is : (most : ℕ) (l : List ℕ) (j : ℕ) → suc j < length (records most l)
    → (j < length (records (most - 1) (drop (record_size l) l)))
    × (get_or (records most l) (suc j) [] ≡ get_or (records (most - 1) (drop (record_size l) l)) j [])
later_is zero l j h = let e = ap length (none_asked zero l refl) in absurd (omega arith)
later_is (suc most) l j h = let e : suc most - 1 ≡ most = omega arith in rw e (by_size (ℕ_discrete (record_size l) 0))
  where
    by_size : Dec (record_size l ≡ 0)
        → (j < length (records most (drop (record_size l) l)))
        × (get_or (records (suc most) l) (suc j) [] ≡ get_or (records most (drop (record_size l) l)) j [])
    by_size (yes e) = let z = ap length (none_here (suc most) l e) in absurd (omega arith)
    by_size (no n) =
        let e = one_here (suc most) l most refl n in
        let k = ap length e in
        (omega arith, ap (λ (rs : List (List ℕ)). get_or rs (suc j) []) e)

-- a loop that has cut off `count` records, up to `at`: as many as it may
module _ (jobs : List ℕ) (count at : ℕ) where
  pub cut_done : 64 ≤ count → (length (records (64 - count) (drop at jobs)) ≡ 0) × (total length (records (64 - count) (drop at jobs)) ≡ 0)
  unfolding total
  cut_done h = let e = none_asked (64 - count) (drop at jobs) (omega arith) in (ap length e, ap (total length) e)

-- a loop that has cut off `count` records, up to `at`, and now looks at one of so many bytes
module _ (jobs : List ℕ) (count at size : ℕ) (sized : size ≡ record_size (take (length jobs - at) (drop at jobs))) where
  size_here : size ≡ record_size (drop at jobs)
  size_here = sized ∙ ap record_size (rest_is jobs at)

  pub cut_stop : size ≡ 0 → (length (records (64 - count) (drop at jobs)) ≡ 0) × (total length (records (64 - count) (drop at jobs)) ≡ 0)
  unfolding total
  cut_stop z =
      let e = none_here (64 - count) (drop at jobs) (sym size_here ∙ z) in
      (ap length e, ap (total length) e)

  pub cut_turn : count < 64 → (size ≡ 0 → ⊥) → size ≤ length (take (length jobs - at) (drop at jobs))
      → (length (records (64 - count) (drop at jobs)) ≡ 1 + length (records (64 - (count + 1)) (drop (at + size) jobs)))
      × (total length (records (64 - count) (drop at jobs)) ≡ size + total length (records (64 - (count + 1)) (drop (at + size) jobs)))
  unfolding total
  cut_turn few n fits =
      let e
      = one_here (64 - count) (drop at jobs) (64 - (count + 1)) (omega arith) (λ z. n (size_here ∙ z)) in
      let f : take (record_size (drop at jobs)) (drop at jobs) ∷ records (64 - (count + 1)) (drop (record_size (drop at jobs)) (drop at jobs))
      ≡ take size (drop at jobs) ∷ records (64 - (count + 1)) (drop (at + size) jobs)
      = rw (← size_here, drop-drop size at jobs) in
      let t = length-take-le size (drop at jobs) (rw (rest_is jobs at) at fits) in
      (omega (arith, ap length (e ∙ f)), omega (arith, ap (total length) (e ∙ f)))

  -- .. on its way to record i
  pub seek_turn : (i : ℕ) → count < i → i - count < length (records (64 - count) (drop at jobs))
      → (i - (count + 1) < length (records (64 - (count + 1)) (drop (at + size) jobs)))
      × (get_or (records (64 - count) (drop at jobs)) (i - count) [] ≡ get_or (records (64 - (count + 1)) (drop (at + size) jobs)) (i - (count + 1)) [])
  seek_turn i h few =
      let e : i - count ≡ suc (i - (count + 1)) = omega arith in
      let f : 64 - count - 1 ≡ 64 - (count + 1) = omega arith in
      let g : drop (record_size (drop at jobs)) (drop at jobs) ≡ drop (at + size) jobs = rw (← size_here, drop-drop size at jobs) in
      let t = later_is (64 - count) (drop at jobs) (i - (count + 1)) (rw e at few) in
      rw e (rw (f, g) at t)

  -- .. and at it
  pub seek_done : (i : ℕ) → i ≡ count → i - count < length (records (64 - count) (drop at jobs))
      → take size (drop at jobs) ≡ get_or (records (64 - count) (drop at jobs)) (i - count) []
  seek_done i h few =
      let e : i - count ≡ 0 = omega arith in
      rw (e, size_here) (sym (first_is (64 - count) (drop at jobs) (rw e at few)))
