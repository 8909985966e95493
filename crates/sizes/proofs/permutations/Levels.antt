-- The sweeps over the table of sizes: one for k + 1 gates gives each cell its least count below k + 2, where it had that below k + 1.
use mathlib.Core.Path.{◌≡◌, refl, sym, ap, ◌∙◌}
use mathlib.Core.Bool.{Bool, true, false, not, false≢true, true≢false}
use mathlib.Core.List.{List, [], ◌∷◌, map, Memᴰ}
use Prim.Native.Nat.{ℕ, suc, ◌+◌, ◌≤◌, ◌<◌}
use native.Mathlib.Decide.{ℕ_discrete}
use native.Mathlib.Nat.{zero-add}
use native.Mathlib.Numerals.{add-one}
use native.Mathlib.Omega.{arith}
use borrow.Author.Tests.{eq-eqb, ne_eqb, eqb-true, lt-ltb, le-ltb, ltb-true, not-true, not-false}
use lib.Dec.{eqb, ltb}
use lib.ListN.{length, get_or, set, length-map}
use lib.Seq.{get_or-set_same, get_or-set_other, ext_get_or}
use Rattle.logic.specs.Rules.{both, pick}
use Rattle.logic.specs.Lists.{all_of, along}
use Rattle.logic.proofs.Chain.{not_so}
use Rattle.logic.proofs.Counts.{same_truth}
use Rattle.logic.proofs.Members.{all_member, numbers_at, among_nil}
use Rattle.gate.specs.Gates.{step}
use Rattle.parity.specs.Parity.{differs}
use Rattle.sizes.specs.permutations.Orders.{eight, permutations, Arranges, rank_among, rank_of, factorial}
use Rattle.table.specs.Rows.{row_of}
use Rattle.sizes.specs.permutations.Sizes.{twelve, Makes, made_by, least_below, size_of, sizes}
use Rattle.sizes.specs.permutations.Inner.{neighbor_of, permutation_at, apart, grown, Level, Swept}
use Rattle.sizes.proofs.permutations.Lists.{map_at}
use Rattle.sizes.proofs.permutations.Orders.{eight_distinct, permutations_many, permutes_at, rank_at, at_rank}
use Rattle.sizes.proofs.permutations.Masks.{neighbor_lt, neighbor_at}
use Rattle.sizes.proofs.permutations.Least.{least_most, least_none, least_some, least_is}
use Rattle.sizes.proofs.permutations.Made.{made_is, made_has, made_next, made_from}

-- a test that does not hold of all fails at one
not_all : (f : ℕ → Bool) (l : List ℕ) → all_of f l ≡ false → (a : ℕ) × (Memᴰ a l × (f a ≡ false))
unfolding all_of
not_all f [] h = absurd (true≢false h)
not_all f (x ∷ l) h = by_first (f x) refl h (not_all f l)
  where
    by_first : (t : Bool) → f x ≡ t → both t (all_of f l) ≡ false → (all_of f l ≡ false → (a : ℕ) × (Memᴰ a l × (f a ≡ false)))
        → (a : ℕ) × (Memᴰ a (x ∷ l) × (f a ≡ false))
    by_first true e k rest = let r = rest k in (r.0, (Memᴰ.tail r.1.0, r.1.1))
    by_first false e k rest = (x, (Memᴰ.head refl, e))

module _ (k r : ℕ) (cells : List ℕ) (small : k < 254) (inside : r < 40320) (swept : Swept (suc k) r cells) where
  abbrev v : List ℕ
  v = permutation_at r

  abbrev before : ℕ
  before = least_below (suc k) (made_by v)

  -- up to where the counts at a place are known
  abbrev known : ℕ → ℕ
  known s = pick (ltb s r) (suc (suc k)) (suc k)

  known_more : (s : ℕ) → (k < known s) × (known s ≤ 255)
  known_more s = either_way (ltb s r)
    where
      either_way : (t : Bool) → (k < pick t (suc (suc k)) (suc k)) × (pick t (suc (suc k)) (suc k) ≤ 255)
      either_way true = (omega arith, omega arith)
      either_way false = (omega arith, omega arith)

  held : get_or cells r 0 ≡ before
  held = swept r inside ∙ ap (λ (t : Bool). least_below (pick t (suc (suc k)) (suc k)) (made_by v)) (le-ltb r r (omega arith))

  module _ (g : ℕ) (m : Memᴰ g twelve) where
    there : get_or cells (neighbor_of g r) 0 ≡ least_below (known (neighbor_of g r)) (made_by (map (step g) v))
    there =
        swept (neighbor_of g r) (neighbor_lt g r m inside)
        ∙ ap (λ (w : List ℕ). least_below (known (neighbor_of g r)) (made_by w)) (neighbor_at g r m inside)

    -- a neighbor that holds k is made by k gates, and so the permutation by one more
    from_neighbor : get_or cells (neighbor_of g r) 0 ≡ k → made_by v (suc k) ≡ true
    from_neighbor e =
        let n = known_more (neighbor_of g r) in
        made_next v (permutes_at r inside) g k m
        (least_some (made_by (map (step g) v)) (known (neighbor_of g r)) n.1 k (omega arith) (sym there ∙ e)).1.0

    -- a neighbor made by k gates holds k, where nothing shorter makes the permutation
    at_neighbor : before ≡ 255 → made_by (map (step g) v) k ≡ true → get_or cells (neighbor_of g r) 0 ≡ k
    at_neighbor none t =
        let n = known_more (neighbor_of g r) in
        there
        ∙ least_is (made_by (map (step g) v)) (known (neighbor_of g r)) n.1 k n.0 t (λ j h.
        not_so (made_by (map (step g) v) j) (λ u.
        true≢false
        (sym (made_next v (permutes_at r inside) g j m u) ∙ least_none (made_by v) (suc k) (omega arith) none (suc j) (omega arith))))

  -- where nothing shorter does, k + 1 gates make it exactly where some neighbor holds k
  one_more : before ≡ 255 → not (apart twelve cells r k) ≡ made_by v (suc k)
  unfolding apart
  one_more none = same_truth (not (apart twelve cells r k)) (made_by v (suc k)) forth back
    where
      away : ℕ → Bool
      away g = differs k (get_or cells (neighbor_of g r) 0)

      forth : not (apart twelve cells r k) ≡ true → made_by v (suc k) ≡ true
      forth h =
          let a = not_all away twelve (not-true (apart twelve cells r k) h) in
          from_neighbor a.0 a.1.0 (eqb-true (get_or cells (neighbor_of a.0 r) 0) k (not-false (eqb (get_or cells (neighbor_of a.0 r) 0) k) a.1.1))

      back : made_by v (suc k) ≡ true → not (apart twelve cells r k) ≡ true
      back h =
          let a = made_from v (permutes_at r inside) k h in
          let e = at_neighbor a.0 a.1.0 none a.1.1 in
          let f = not_so (apart twelve cells r k) (λ t.
          let u = all_member away a.0 twelve t a.1.0 in
          false≢true (ap not (sym (eq-eqb (get_or cells (neighbor_of a.0 r) 0) k e)) ∙ u)) in
          ap not f

  pub grown_is : grown twelve cells r k ≡ least_below (suc (suc k)) (made_by v)
  unfolding grown least_below
  grown_is = by_held (ℕ_discrete before 255)
    where
      by_held : Dec (before ≡ 255)
          → pick (both (eqb (get_or cells r 0) 255) (not (apart twelve cells r k))) (k + 1) (get_or cells r 0)
          ≡ pick (ltb before 255) before (pick (made_by v (suc k)) (suc k) 255)
      by_held (yes e) =
          rw (eq-eqb (get_or cells r 0) 255 (held ∙ e), le-ltb before 255 (omega arith), one_more e, held ∙ e, add-one)
      by_held (no n) =
          let h = least_most (made_by v) (suc k) (omega arith) in
          rw (ne_eqb (get_or cells r 0) 255 (λ e. n (sym held ∙ e)), lt-ltb before 255 (omega arith)) held

  -- one turn of a sweep
  pub swept_turn : (c : ℕ) → length cells ≡ 40320 → c ≡ grown twelve cells r k → Swept (suc k) (suc r) (set cells r c)
  swept_turn c long e s h = by_place (ℕ_discrete s r)
    where
      by_place : Dec (s ≡ r) → get_or (set cells r c) s 0 ≡ least_below (pick (ltb s (suc r)) (suc (suc k)) (suc k)) (made_by (permutation_at s))
      by_place (yes q) =
          rw (lt-ltb s (suc r) (omega arith), q) (get_or-set_same cells r c 0 (omega arith) ∙ e ∙ grown_is)
      by_place (no n) =
          get_or-set_other cells r s c 0 n ∙ swept s h
          ∙ ap (λ (t : Bool). least_below (pick t (suc (suc k)) (suc k)) (made_by (permutation_at s)))
          (same_truth (ltb s r) (ltb s (suc r)) (λ t. lt-ltb s (suc r) (let l = ltb-true s r t in omega arith))
          (λ t. lt-ltb s r (let l = ltb-true s (suc r) t in omega arith)))

module _ (n : ℕ) (cells : List ℕ) where
  -- a sweep begins with the counts below n, and ends with those below n + 1
  pub swept_start : Level n cells → Swept n 0 cells
  swept_start level s h = level s h ∙ ap (λ (t : Bool). least_below (pick t (suc n) n) (made_by (permutation_at s))) (sym (le-ltb s 0 (omega arith)))

  pub swept_end : (r : ℕ) → 40320 ≤ r → Swept n r cells → Level (suc n) cells
  swept_end r long swept s h = swept s h ∙ ap (λ (t : Bool). least_below (pick t (suc n) n) (made_by (permutation_at s))) (lt-ltb s r (omega arith))

-- no gate makes the first permutation, and no other
itself : Arranges eight eight
itself = record { same_length = refl; once = eight_distinct; among = λ x m. m }

first_rank : rank_of eight ≡ 0
unfolding rank_among row_of factorial
first_rank = refl

first_permutation : permutation_at 0 ≡ eight
first_permutation = ap permutation_at (sym first_rank) ∙ at_rank eight itself

-- a list of no gates makes the rows' own numbers
still : (v : List ℕ) → Arranges eight v → (l : List ℕ) → length l ≡ 0 → Makes v l → v ≡ eight
unfolding along
still v a [] e m =
    ext_get_or 0 v eight a.same_length (λ x h.
    let k : x < 8 = (let q = a.same_length in omega arith) in sym (m x k) ∙ sym (numbers_at 8 0 x 0 k ∙ zero-add x))
still v a (g ∷ l) e m = absurd (omega arith)

by_none : (r : ℕ) → r < 40320 → made_by (permutation_at r) 0 ≡ eqb r 0
unfolding along
by_none r h = same_truth (made_by (permutation_at r) 0) (eqb r 0) forth back
  where
    forth : made_by (permutation_at r) 0 ≡ true → eqb r 0 ≡ true
    forth t =
        let p = made_is (permutation_at r) 0 t in
        let e = still (permutation_at r) (permutes_at r h) p.0 p.1.1.0 p.1.1.1 in
        eq-eqb r 0 (sym (rank_at r h) ∙ ap rank_of e ∙ first_rank)

    back : eqb r 0 ≡ true → made_by (permutation_at r) 0 ≡ true
    back t =
        let e : permutation_at r ≡ eight = ap permutation_at (eqb-true r 0 t) ∙ first_permutation in
        made_has (permutation_at r) [] among_nil (λ x k.
        sym (ap (λ (v : List ℕ). get_or v x 0) e ∙ numbers_at 8 0 x 0 k ∙ zero-add x))

pub level_first : (cells : List ℕ) → ((s : ℕ) → s < 40320 → get_or cells s 0 ≡ pick (eqb s 0) 0 255) → Level 1 cells
unfolding least_below
level_first cells h r inside = h r inside ∙ ap (λ (t : Bool). pick t 0 255) (sym (by_none r inside))

-- all counts: the table of sizes
pub level_last : (cells : List ℕ) → length cells ≡ 40320 → Level 255 cells → cells ≡ sizes
unfolding sizes size_of
level_last cells long level =
    ext_get_or 0 cells sizes (long ∙ sym many) (λ r h.
    level r (omega arith) ∙ sym (map_at size_of permutations r [] 0 (let e = permutations_many in omega arith)))
  where
    many : length (map size_of permutations) ≡ 40320
    many = length-map permutations size_of ∙ permutations_many
