-- The orders of some different values: there are as many as the factorial says, the one at each place is read off the place's digits, and
-- rank is its place. So each permutation stands in the list, once.
use mathlib.Core.Path.{◌≡◌, refl, sym, ap, ap₂, ◌∙◌, subst}
use mathlib.Core.Bool.{true}
use mathlib.Core.List.Memᴰ
use mathlib.Core.List.{List, [], ◌∷◌, map, Memᴰ}
use Prim.Native.Nat.{ℕ, zero, suc, ◌+◌, ◌*◌, ◌/◌, ◌%◌, ◌≤◌, ◌<◌}
use native.Mathlib.Nat.{le_of_suc-le-suc, mod-lt, div-add-mod, div-lt_iff_lt-mul, mul-le-mul_right, mul_comm, suc-mul, mul-pos}
use native.Mathlib.Omega.{arith}
use lib.ListN.{length, get_or, length-map}
use Rattle.logic.specs.Lists.{all_of}
use Rattle.logic.proofs.Chain.{both_left, both_right, both_true}
use Rattle.logic.proofs.Members.{member_at, all_member, all_members, keep_is, keep_has, among_cons, among_head, among_tail}
use Rattle.parity.specs.Parity.{differs, distinct}
use Rattle.sizes.specs.permutations.Orders.{without, orders, eight, permutations, Arranges, factorial, rank_among, rank_of}
use Rattle.table.specs.Rows.{row_of}
use Rattle.sizes.specs.permutations.Inner.{permutation_at}
use Rattle.sizes.proofs.permutations.Lists.{map_at, flat_length, flat_at, keep_distinct, without_length}
use Rattle.parity.proofs.Distinct.{row_of_at}
use Rattle.table.proofs.Rows.{row_of_is}

pub factorial_pos : (n : ℕ) → 0 < factorial n
unfolding factorial
factorial_pos zero = omega arith
factorial_pos (suc n) = mul-pos (omega arith) (factorial_pos n)

-- a place by its first digit and the rest
pub digits : (n r : ℕ) → r < factorial (suc n)
    → (r / factorial n < suc n) × ((r % factorial n < factorial n) × (r / factorial n * factorial n + r % factorial n ≡ r))
unfolding factorial
digits n r h =
    let p = factorial_pos n in
    ((div-lt_iff_lt-mul p).1 h, (mod-lt r p, ap (λ (k : ℕ). k + r % factorial n) (mul_comm (r / factorial n) (factorial n)) ∙ div-add-mod r (factorial n)))

digits_lt : (n i j : ℕ) → i < suc n → j < factorial n → i * factorial n + j < factorial (suc n)
unfolding factorial
digits_lt n i j hi hj =
    let a : i ≤ n = le_of_suc-le-suc hi in
    let b = mul-le-mul_right (factorial n) a in
    let c = suc-mul n (factorial n) in
    omega arith

-- what is left of different values when one goes
pub left : (n x : ℕ) (vs : List ℕ) → distinct vs ≡ true → length vs ≡ suc n → Memᴰ x vs
    → (distinct (without x vs) ≡ true) × (length (without x vs) ≡ n)
left n x vs d h m = (keep_distinct (differs x) vs d, let e = without_length x vs d m in omega arith)

pub orders_many : (n : ℕ) (vs : List ℕ) → distinct vs ≡ true → length vs ≡ n → length (orders n vs) ≡ factorial n
unfolding orders factorial
orders_many zero vs d h = refl
orders_many (suc n) vs d h =
    flat_length (λ (x : ℕ). map (λ (o : List ℕ). x ∷ o) (orders n (without x vs))) (factorial n) vs
    (λ x m. let e = left n x vs d h m in
    length-map (orders n (without x vs)) (λ (o : List ℕ). x ∷ o) ∙ orders_many n (without x vs) e.0 e.1)
    ∙ ap (λ (k : ℕ). k * factorial n) h

-- the order at a place: the digit's value first, then an order of those left
pub orders_at : (n : ℕ) (vs : List ℕ) (i j : ℕ) → distinct vs ≡ true → length vs ≡ suc n → i < suc n → j < factorial n
    → get_or (orders (suc n) vs) (i * factorial n + j) [] ≡ get_or vs i 0 ∷ get_or (orders n (without (get_or vs i 0) vs)) j []
unfolding orders
orders_at n vs i j d h hi hj =
    flat_at (λ (x : ℕ). map (λ (o : List ℕ). x ∷ o) (orders n (without x vs))) (factorial n) vs i j 0 [] each inside hj
    ∙ map_at (λ (o : List ℕ). get_or vs i 0 ∷ o) (orders n (without (get_or vs i 0) vs)) j [] []
    (subst (λ (k : ℕ). j < k) (sym (many (get_or vs i 0) (member_at vs i inside))) hj)
  where
    inside : i < length vs
    inside = omega arith

    many : (x : ℕ) → Memᴰ x vs → length (orders n (without x vs)) ≡ factorial n
    many x m = let e = left n x vs d h m in orders_many n (without x vs) e.0 e.1

    each : (x : ℕ) → Memᴰ x vs → length (map (λ (o : List ℕ). x ∷ o) (orders n (without x vs))) ≡ factorial n
    each x m = length-map (orders n (without x vs)) (λ (o : List ℕ). x ∷ o) ∙ many x m

pub orders_split : (n : ℕ) (vs : List ℕ) (r : ℕ) → distinct vs ≡ true → length vs ≡ suc n → r < factorial (suc n)
    → get_or (orders (suc n) vs) r []
    ≡ get_or vs (r / factorial n) 0 ∷ get_or (orders n (without (get_or vs (r / factorial n) 0) vs)) (r % factorial n) []
orders_split n vs r d h hr =
    let s = digits n r hr in
    ap (λ (k : ℕ). get_or (orders (suc n) vs) k []) (sym s.1.1) ∙ orders_at n vs (r / factorial n) (r % factorial n) d h s.0 s.1.0

-- an order of some values: one of them, and an order of the others
pub arranges_cons : (x : ℕ) (vs o : List ℕ) → distinct vs ≡ true → Memᴰ x vs → Arranges (without x vs) o → Arranges vs (x ∷ o)
unfolding distinct
arranges_cons x vs o d m a = record {
  same_length = ap suc a.same_length ∙ without_length x vs d m;
  once = both_true (all_members (differs x) o (λ y n. (keep_is (differs x) vs y (a.among y n)).0)) a.once;
  among = among_cons m (λ y n. (keep_is (differs x) vs y (a.among y n)).1);
}

pub arranges_tail : (x : ℕ) (vs o : List ℕ) → distinct vs ≡ true → Arranges vs (x ∷ o) → Arranges (without x vs) o
unfolding distinct
arranges_tail x vs o d a =
    let m = among_head a.among in
    let w = without_length x vs d m in
    let l = a.same_length in
    record {
      same_length = omega arith;
      once = both_right (all_of (differs x) o) (distinct o) a.once;
      among = λ y n. keep_has (differs x) vs y (all_member (differs x) y o (both_left (all_of (differs x) o) (distinct o) a.once) n)
          (among_tail a.among y n);
    }

-- what stands at a place is an order of the values
pub arranges_at : (n : ℕ) (vs : List ℕ) (r : ℕ) → distinct vs ≡ true → length vs ≡ n → r < factorial n → Arranges vs (get_or (orders n vs) r [])
unfolding orders factorial distinct
arranges_at zero vs zero d h hr = record { same_length = sym h; once = refl; among = λ y n. absurd (Memᴰ.not-nil n) }
arranges_at zero vs (suc r) d h hr = absurd (omega arith)
arranges_at (suc n) vs r d h hr =
    let s = digits n r hr in
    let m = member_at vs (r / factorial n) (omega (arith, s.0)) in
    let e = left n (get_or vs (r / factorial n) 0) vs d h m in
    subst (Arranges vs) (sym (orders_split n vs r d h hr))
    (arranges_cons (get_or vs (r / factorial n) 0) vs (get_or (orders n (without (get_or vs (r / factorial n) 0) vs)) (r % factorial n) []) d m
    (arranges_at n (without (get_or vs (r / factorial n) 0) vs) (r % factorial n) e.0 e.1 s.1.0))

-- rank leads to the order
pub ranked : (v vs : List ℕ) → distinct vs ≡ true → Arranges vs v
    → (rank_among vs v < factorial (length v)) × (get_or (orders (length v) vs) (rank_among vs v) [] ≡ v)
unfolding rank_among orders factorial
ranked [] vs d a = (omega arith, refl)
ranked (x ∷ xs) vs d a =
    let m = among_head a.among in
    let p = row_of_is x vs m in
    let h : length vs ≡ suc (length xs) = sym a.same_length in
    let t = ranked xs (without x vs) (keep_distinct (differs x) vs d) (arranges_tail x vs xs d a) in
    let i : row_of x vs < suc (length xs) = omega (arith, p.0) in (
      digits_lt (length xs) (row_of x vs) (rank_among (without x vs) xs) i t.0,
      orders_at (length xs) vs (row_of x vs) (rank_among (without x vs) xs) d h i t.0
          ∙ ap (λ (y : ℕ). y ∷ get_or (orders (length xs) (without y vs)) (rank_among (without x vs) xs) []) p.1
          ∙ ap (λ (o : List ℕ). x ∷ o) t.1,
    )

-- and the rank of what stands at a place is the place
pub rank_back : (n : ℕ) (vs : List ℕ) (r : ℕ) → distinct vs ≡ true → length vs ≡ n → r < factorial n → rank_among vs (get_or (orders n vs) r []) ≡ r
unfolding rank_among orders factorial
rank_back zero vs zero d h hr = refl
rank_back zero vs (suc r) d h hr = absurd (omega arith)
rank_back (suc n) vs r d h hr =
    let s = digits n r hr in
    let i : r / factorial n < length vs = omega (arith, s.0) in
    let m = member_at vs (r / factorial n) i in
    let e = left n (get_or vs (r / factorial n) 0) vs d h m in
    let o = get_or (orders n (without (get_or vs (r / factorial n) 0) vs)) (r % factorial n) [] in
    let a = arranges_at n (without (get_or vs (r / factorial n) 0) vs) (r % factorial n) e.0 e.1 s.1.0 in
    ap (rank_among vs) (orders_split n vs r d h hr)
    ∙ ap₂ (λ (x y : ℕ). x + y) (ap₂ (λ (x y : ℕ). x * factorial y) (row_of_at vs (r / factorial n) d i) (a.same_length ∙ e.1))
    (rank_back n (without (get_or vs (r / factorial n) 0) vs) (r % factorial n) e.0 e.1 s.1.0)
    ∙ s.1.1

pub eight_distinct : distinct eight ≡ true
unfolding distinct all_of
eight_distinct = refl

pub all_eight : factorial 8 ≡ 40320
unfolding factorial
all_eight = refl

-- the permutations: 40,320, each at its rank
pub permutations_many : length permutations ≡ 40320
unfolding permutations
permutations_many = orders_many 8 eight eight_distinct refl ∙ all_eight

module _ (r : ℕ) (h : r < 40320) where
  inside : r < factorial 8
  inside = subst (λ (k : ℕ). r < k) (sym all_eight) h

  pub permutes_at : Arranges eight (permutation_at r)
  unfolding permutations
  permutes_at = arranges_at 8 eight r eight_distinct refl inside

  pub rank_at : rank_of (permutation_at r) ≡ r
  unfolding permutations
  rank_at = rank_back 8 eight r eight_distinct refl inside

module _ (v : List ℕ) (a : Arranges eight v) where
  long : length v ≡ 8
  long = a.same_length

  pub rank_lt : rank_of v < 40320
  rank_lt = subst (λ (k : ℕ). rank_of v < k) (ap factorial long ∙ all_eight) (ranked v eight eight_distinct a).0

  pub at_rank : permutation_at (rank_of v) ≡ v
  unfolding permutations
  at_rank = ap (λ (n : ℕ). get_or (orders n eight) (rank_of v) []) (sym long) ∙ (ranked v eight eight_distinct a).1
