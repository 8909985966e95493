-- Why `distinct` says that the values are a permutation: in a list of n values below n, no value stands twice exactly if each number below
-- n stands once. The reason: the counts of all numbers add up to the length n.
use mathlib.Core.Path.{◌≡◌, refl, sym, ◌∙◌}
use mathlib.Core.Bool.{Bool, true, false, not}
use mathlib.Core.Logic.{⊎_elim, ◌↔◌}
use mathlib.Core.List.Memᴰ
use mathlib.Core.List.{List, [], ◌∷◌, map, Memᴰ}
use Prim.Native.Nat.{ℕ, zero, suc, ◌+◌, ◌^◌, ◌≤◌, ◌<◌}
use native.Mathlib.Decide.{ℕ_discrete}
use native.Mathlib.Nat.{not-suc-le-zero, le_of_suc-le-suc, eq-or-lt_of_le}
use native.Mathlib.Omega.{arith}
use borrow.Author.Tests.{eq-eqb, ne_eqb, not-true, ltb-true}
use lib.Dec.{eqb, ltb}
use lib.Bits.{bit_and}
use lib.ListN.{length, length-map}
use Rattle.logic.specs.Rules.{bit, both}
use Rattle.logic.specs.Lists.{all_of, total}
use Rattle.logic.proofs.Chain.{both_left, both_right, both_parts, both_true}
use Rattle.logic.proofs.Members.{all_member}
use Rattle.table.specs.Rows.{care_of, value_of, row_ok}
use Rattle.record.specs.JobRules.{job_code}
use Rattle.record.specs.job_fields.Jobs.{data_wires, rows}
use Rattle.record.proofs.Kept.{sound_job}
use Rattle.parity.specs.Parity.{values, differs, distinct}

abbrev sum_below : ℕ → (ℕ → ℕ) → ℕ
sum_below zero f = 0
sum_below (suc n) f = f n + sum_below n f

-- 1 if y is x, else 0
abbrev is_it : ℕ → ℕ → ℕ
is_it y x = bit (eqb y x)

-- how often x stands in l
abbrev occurs : List ℕ → ℕ → ℕ
occurs l x = total (λ y. is_it y x) l

module _ (f : ℕ → ℕ) where
  sum_zero : (n : ℕ) → ((k : ℕ) → k < n → f k ≡ 0) → sum_below n f ≡ 0
  sum_zero zero h = refl
  sum_zero (suc n) h = omega (arith, h n (omega arith), sum_zero n (λ k l. h k (omega arith)))

  sum_le : (n : ℕ) → ((k : ℕ) → k < n → f k ≤ 1) → sum_below n f ≤ n
  sum_le zero h = omega arith
  sum_le (suc n) h = omega (arith, h n (omega arith), sum_le n (λ k l. h k (omega arith)))

  sum_ge : (n : ℕ) → ((k : ℕ) → k < n → 1 ≤ f k) → n ≤ sum_below n f
  sum_ge zero h = omega arith
  sum_ge (suc n) h = omega (arith, h n (omega arith), sum_ge n (λ k l. h k (omega arith)))

  -- where n numbers of at most 1, or of at least 1, add up to n, each is 1
  each_least : (n : ℕ) → ((k : ℕ) → k < n → f k ≤ 1) → sum_below n f ≡ n → (k : ℕ) → k < n → 1 ≤ f k
  each_least zero h e k l = absurd (not-suc-le-zero l)
  each_least (suc n) h e k l =
      let rest : (i : ℕ) → i < n → f i ≤ 1 = λ i m. h i (omega arith) in
      let s = sum_le n rest in
      let t = h n (omega arith) in
      ⊎_elim (λ (q : k ≡ n). rw q (omega arith)) (λ (q : k < n). each_least n rest (omega arith) k q) (eq-or-lt_of_le (le_of_suc-le-suc l))

  each_most : (n : ℕ) → ((k : ℕ) → k < n → 1 ≤ f k) → sum_below n f ≡ n → (k : ℕ) → k < n → f k ≤ 1
  each_most zero h e k l = absurd (not-suc-le-zero l)
  each_most (suc n) h e k l =
      let rest : (i : ℕ) → i < n → 1 ≤ f i = λ i m. h i (omega arith) in
      let s = sum_ge n rest in
      let t = h n (omega arith) in
      ⊎_elim (λ (q : k ≡ n). rw q (omega arith)) (λ (q : k < n). each_most n rest (omega arith) k q) (eq-or-lt_of_le (le_of_suc-le-suc l))

sum_add : (f g : ℕ → ℕ) (n : ℕ) → sum_below n (λ k. f k + g k) ≡ sum_below n f + sum_below n g
sum_add f g zero = refl
sum_add f g (suc n) = omega (arith, sum_add f g n)

-- a value is one of the numbers
sum_one : (n y : ℕ) → y < n → sum_below n (is_it y) ≡ 1
sum_one zero y h = absurd (not-suc-le-zero h)
sum_one (suc n) y h = by_last (ℕ_discrete y n) (sum_one n y)
  where
    by_last : Dec (y ≡ n) → (y < n → sum_below n (is_it y) ≡ 1) → is_it y n + sum_below n (is_it y) ≡ 1
    by_last (yes e) r = rw (eq-eqb y n e) (omega (arith, sum_zero (is_it y) n (λ k l. rw (ne_eqb y k (λ q. omega arith)))))
    by_last (no d) r = rw (ne_eqb y n d) (omega (arith, r (omega arith)))

-- so the counts of all numbers add up to the length
abbrev low : ℕ → ℕ → Bool
low n y = ltb y n

sum_occurs : (n : ℕ) (l : List ℕ) → all_of (low n) l ≡ true → sum_below n (occurs l) ≡ length l
unfolding total all_of
sum_occurs n [] h = sum_zero (occurs []) n (λ k m. refl)
sum_occurs n (y ∷ l) h =
    let a = both_left (low n y) (all_of (low n) l) h in
    let b = both_right (low n y) (all_of (low n) l) h in
    omega (arith, sum_add (is_it y) (occurs l) n, sum_one n y (ltb-true y n a), sum_occurs n l b)

is_itself : (y : ℕ) → is_it y y ≡ 1
is_itself y = rw (eq-eqb y y refl)

absent_zero : (x : ℕ) (l : List ℕ) → all_of (differs x) l ≡ true → occurs l x ≡ 0
unfolding total all_of
absent_zero x [] h = refl
absent_zero x (y ∷ l) h =
    rw (not-true (eqb y x) (both_left (differs x y) (all_of (differs x) l) h))
    (omega (arith, absent_zero x l (both_right (differs x y) (all_of (differs x) l) h)))

zero_absent : (x : ℕ) (l : List ℕ) → occurs l x ≡ 0 → all_of (differs x) l ≡ true
unfolding total all_of
zero_absent x [] h = refl
zero_absent x (y ∷ l) h = both_true (not_it (eqb y x) (omega arith)) (zero_absent x l (omega arith))
  where
    not_it : (t : Bool) → bit t ≡ 0 → not t ≡ true
    not_it true e = absurd (omega arith)
    not_it false e = refl

-- none stands twice, and each stands at most once
distinct_once : (l : List ℕ) → distinct l ≡ true → (x : ℕ) → occurs l x ≤ 1
unfolding total distinct
distinct_once [] h x = omega arith
distinct_once (y ∷ l) h x = by_head (ℕ_discrete y x) (distinct_once l (both_right (all_of (differs y) l) (distinct l) h) x)
  where
    by_head : Dec (y ≡ x) → occurs l x ≤ 1 → is_it y x + occurs l x ≤ 1
    by_head (yes e) r = rw (← e) (omega (arith, is_itself y, absent_zero y l (both_left (all_of (differs y) l) (distinct l) h)))
    by_head (no d) r = rw (ne_eqb y x d) (omega arith)

once_distinct : (l : List ℕ) → ((x : ℕ) → Memᴰ x l → occurs l x ≤ 1) → distinct l ≡ true
unfolding total distinct
once_distinct [] h = refl
once_distinct (y ∷ l) h =
    both_true (zero_absent y l (omega (arith, is_itself y, h y (Memᴰ.head refl))))
    (once_distinct l (λ x m. omega (arith, h x (Memᴰ.tail m))))

occurs_member : (x : ℕ) (l : List ℕ) → 1 ≤ occurs l x → Memᴰ x l
unfolding total
occurs_member x [] h = absurd (not-suc-le-zero h)
occurs_member x (y ∷ l) h = by_head (ℕ_discrete y x) (occurs_member x l)
  where
    by_head : Dec (y ≡ x) → (1 ≤ occurs l x → Memᴰ x l) → Memᴰ x (y ∷ l)
    by_head (yes e) r = Memᴰ.head (sym e)
    by_head (no d) r = let k = rw (ne_eqb y x d) at h in Memᴰ.tail (r (omega arith))

member_occurs : (x : ℕ) (l : List ℕ) → Memᴰ x l → 1 ≤ occurs l x
unfolding total
member_occurs x [] m = absurd (Memᴰ.not-nil m)
member_occurs x (y ∷ l) m =
    ⊎_elim
    (λ (e : x ≡ y). rw e (omega (arith, is_itself y)))
    (λ (k : Memᴰ x l). omega (arith, member_occurs x l k))
    (Memᴰ.cases_cons m)

-- values as many as there are numbers below n, all below n
module _ (n : ℕ) (l : List ℕ) (many : length l ≡ n) (small : all_of (low n) l ≡ true) where
  counted : sum_below n (occurs l) ≡ n
  counted = sum_occurs n l small ∙ many

  pub every_value : (distinct l ≡ true) ↔ ((v : ℕ) → v < n → Memᴰ v l)
  every_value = (
    (λ h v k. occurs_member v l (each_least (occurs l) n (λ x m. distinct_once l h x) counted v k)),
    (λ h. once_distinct l (λ x m.
        each_most (occurs l) n (λ v k. member_occurs v l (h v k)) counted x (ltb-true x n (all_member (low n) x l small m)))),
  )

-- the rows of a well-formed job have values below 2^n
values_low : (n : ℕ) (rs : List ℕ) → all_of (row_ok n) rs ≡ true → all_of (low (2 ^ n)) (map value_of rs) ≡ true
unfolding all_of row_ok
values_low n [] h = refl
values_low n (r ∷ rs) h =
    let p = both_parts (row_ok n r) (all_of (row_ok n) rs) h in
    let fits = both_right (eqb (bit_and (care_of r) (value_of r)) (value_of r)) (both (ltb (care_of r) (2 ^ n)) (ltb (value_of r) (2 ^ n)))
    p.0 in
    both_true (both_right (ltb (care_of r) (2 ^ n)) (ltb (value_of r) (2 ^ n)) fits) (values_low n rs p.1)

-- "the values are a permutation": every value below 2^n is there
pub permutation : (job : List ℕ) → job_code job ≡ 0
    → (distinct (values job) ≡ true) ↔ ((v : ℕ) → v < 2 ^ data_wires job → Memᴰ v (values job))
permutation job h =
    let s = sound_job job h in
    every_value (2 ^ data_wires job) (values job) (length-map (rows job) value_of ∙ s.rows_many)
    (values_low (data_wires job) (rows job) s.rows_kept)
