-- Masks of unused values: what the bits of a mask say of the list of its members, computed for every mask. So the places that masks give
-- are those of the list of permutations, and a gate leads from the place of each permutation to that of its neighbor.
use mathlib.Core.Path.{◌≡◌, refl, sym, ap, ap₂, ◌∙◌, subst}
use mathlib.Core.Bool.{Bool, true, false, false≢true}
use mathlib.Core.List.Memᴰ
use mathlib.Core.List.{List, [], ◌∷◌, map, Memᴰ}
use Prim.Native.Nat.{ℕ, zero, suc, ◌+◌, ◌*◌, ◌/◌, ◌%◌, ◌^◌, ◌<◌}
use native.Mathlib.Omega.{arith}
use borrow.Author.Tests.{eqb-true, ltb-true}
use lib.Bits.{bit_xor}
use lib.Count.{ones, ones_in}
use lib.Dec.{eqb, ltb}
use lib.ListN.{length, get_or, length-map}
use Rattle.logic.specs.Rules.{both, implies, all_below}
use Rattle.logic.specs.Lists.{all_of}
use Rattle.logic.proofs.Chain.{both_left, both_right, implied}
use Rattle.logic.proofs.Below.{below}
use Rattle.logic.proofs.Members.{member_at, all_member, keep_is, among_head, numbers_has}
use Rattle.gate.specs.Gates.{step}
use Rattle.gate.proofs.Undo.{undo, stay}
use Rattle.gate.proofs.Tables.{gate_is}
use Rattle.parity.specs.Parity.{distinct}
use Rattle.sizes.specs.permutations.Orders.{without, orders, eight, permutations, Arranges, factorial, rank_among, rank_of}
use Rattle.table.specs.Rows.{row_of}
use Rattle.sizes.specs.permutations.Sizes.{twelve}
use Rattle.sizes.specs.permutations.Inner.{in_mask, members, arranged, placed, neighbor_of, permutation_at}
use Rattle.sizes.proofs.permutations.Lists.{keep_distinct, without_length, map_distinct}
use Rattle.sizes.proofs.permutations.Orders.{digits, orders_split, arranges_tail, eight_distinct, permutes_at, rank_lt, at_rank}

-- two lists compared
abbrev alike : List ℕ → List ℕ → Bool
alike [] [] = true
alike [] (y ∷ ys) = false
alike (x ∷ xs) [] = false
alike (x ∷ xs) (y ∷ ys) = both (eqb x y) (alike xs ys)

alike_is : (xs ys : List ℕ) → alike xs ys ≡ true → xs ≡ ys
alike_is [] [] h = refl
alike_is [] (y ∷ ys) h = absurd (false≢true h)
alike_is (x ∷ xs) [] h = absurd (false≢true h)
alike_is (x ∷ xs) (y ∷ ys) h =
    ap₂ (λ (z : ℕ) (zs : List ℕ). z ∷ zs) (eqb-true x y (both_left (eqb x y) (alike xs ys) h)) (alike_is xs ys (both_right (eqb x y) (alike xs ys) h))

-- a value that goes: the mask without its bit, and the ones below it
abbrev goes : ℕ → ℕ → Bool
goes m x = both (alike (members (bit_xor m (2 ^ x))) (without x (members m))) (both (eqb (ones (m % 2 ^ x)) (row_of x (members m))) (ltb (bit_xor m (2 ^ x)) 256))

abbrev goes_if_there : ℕ → ℕ → Bool
goes_if_there m x = implies (in_mask m x) (goes m x)

abbrev each_goes : ℕ → Bool
each_goes m = all_below 8 (goes_if_there m)

all_go : all_below 256 each_goes ≡ true
unfolding members row_of ones ones_in
all_go = refl

pub eight_lt : (x : ℕ) → Memᴰ x eight → x < 8
unfolding all_of
eight_lt x m = ltb-true x 8 (all_member (λ (y : ℕ). ltb y 8) x eight refl m)

module _ (m x : ℕ) (hm : m < 256) (h : Memᴰ x (members m)) where
  gone : goes m x ≡ true
  unfolding members
  gone =
      let k = keep_is (in_mask m) eight x h in
      implied (in_mask m x) (goes m x) (below 8 (goes_if_there m) (below 256 each_goes all_go m hm) x (eight_lt x k.1)) k.0

  more : both (eqb (ones (m % 2 ^ x)) (row_of x (members m))) (ltb (bit_xor m (2 ^ x)) 256) ≡ true
  more = both_right (alike (members (bit_xor m (2 ^ x))) (without x (members m))) (both (eqb (ones (m % 2 ^ x)) (row_of x (members m))) (ltb (bit_xor m (2 ^ x)) 256)) gone

  members_left : members (bit_xor m (2 ^ x)) ≡ without x (members m)
  members_left =
      alike_is (members (bit_xor m (2 ^ x))) (without x (members m))
      (both_left (alike (members (bit_xor m (2 ^ x))) (without x (members m))) (both (eqb (ones (m % 2 ^ x)) (row_of x (members m))) (ltb (bit_xor m (2 ^ x)) 256)) gone)

  row_in_mask : ones (m % 2 ^ x) ≡ row_of x (members m)
  row_in_mask = eqb-true (ones (m % 2 ^ x)) (row_of x (members m)) (both_left (eqb (ones (m % 2 ^ x)) (row_of x (members m))) (ltb (bit_xor m (2 ^ x)) 256) more)

  mask_lt : bit_xor m (2 ^ x) < 256
  mask_lt = ltb-true (bit_xor m (2 ^ x)) 256 (both_right (eqb (ones (m % 2 ^ x)) (row_of x (members m))) (ltb (bit_xor m (2 ^ x)) 256) more)

members_distinct : (m : ℕ) → distinct (members m) ≡ true
unfolding members
members_distinct m = keep_distinct (in_mask m) eight eight_distinct

-- the order at a place, by masks
arranged_is : (n m r : ℕ) → m < 256 → length (members m) ≡ n → r < factorial n → arranged n m r ≡ get_or (orders n (members m)) r []
unfolding arranged orders factorial
arranged_is zero m zero hm h hr = refl
arranged_is zero m (suc r) hm h hr = absurd (omega arith)
arranged_is (suc n) m r hm h hr =
    let s = digits n r hr in
    let x = get_or (members m) (r / factorial n) 0 in
    let i = member_at (members m) (r / factorial n) (omega (arith, s.0)) in
    let l = members_left m x hm i in
    let w = without_length x (members m) (members_distinct m) i in
    let k : length (members (bit_xor m (2 ^ x))) ≡ n = ap length l ∙ omega arith in
    ap (λ (o : List ℕ). x ∷ o)
    (arranged_is n (bit_xor m (2 ^ x)) (r % factorial n) (mask_lt m x hm i) k s.1.0
    ∙ ap (λ (vs : List ℕ). get_or (orders n vs) (r % factorial n) []) l)
    ∙ sym (orders_split n (members m) r (members_distinct m) h hr)

-- and the place of an order
placed_is : (v : List ℕ) (m : ℕ) → m < 256 → Arranges (members m) v → placed m v ≡ rank_among (members m) v
unfolding placed rank_among
placed_is [] m hm a = refl
placed_is (x ∷ xs) m hm a =
    let i = among_head a.among in
    let l = members_left m x hm i in
    ap₂ (λ (p q : ℕ). p * factorial (length xs) + q) (row_in_mask m x hm i)
    (placed_is xs (bit_xor m (2 ^ x)) (mask_lt m x hm i)
    (subst (λ (vs : List ℕ). Arranges vs xs) (sym l) (arranges_tail x (members m) xs (members_distinct m) a))
    ∙ ap (λ (vs : List ℕ). rank_among vs xs) l)

-- a gate makes one permutation of another
pub step_back : (g x : ℕ) → Memᴰ g twelve → x < 8 → step g (step g x) ≡ x
step_back g x m h = undo 2 3 g x (omega arith) (gate_is 2 3 g m) h

pub step_lt : (g x : ℕ) → Memᴰ g twelve → x < 8 → step g x < 8
step_lt g x m h = stay 2 3 g x (gate_is 2 3 g m) h

-- so does whatever takes the eight values to different ones of them
pub map_arranges : (f : ℕ → ℕ) (v : List ℕ) → ((x : ℕ) → x < 8 → f x < 8) → ((x y : ℕ) → x < 8 → y < 8 → f x ≡ f y → x ≡ y)
    → Arranges eight v → Arranges eight (map f v)
map_arranges f v low once a = record {
  same_length = length-map v f ∙ a.same_length;
  once = map_distinct f v (λ x y m n. once x y (eight_lt x (a.among x m)) (eight_lt y (a.among y n))) a.once;
  among = λ y m.
      let p = Memᴰ.of_map f v m in
      numbers_has 8 0 y (omega arith) (let k = subst (λ (z : ℕ). z < 8) p.2 (low p.0 (eight_lt p.0 (a.among p.0 p.1))) in omega arith);
}

pub step_arranges : (g : ℕ) (v : List ℕ) → Memᴰ g twelve → Arranges eight v → Arranges eight (map (step g) v)
step_arranges g v m =
    map_arranges (step g) v (λ x h. step_lt g x m h) (λ x y h k e. sym (step_back g x m h) ∙ ap (step g) e ∙ step_back g y m k)

all_members : members 255 ≡ eight
unfolding members
all_members = refl

module _ (g r : ℕ) (m : Memᴰ g twelve) (h : r < 40320) where
  arranges_made : Arranges eight (map (step g) (permutation_at r))
  arranges_made = step_arranges g (permutation_at r) m (permutes_at r h)

  at_place : arranged 8 255 r ≡ permutation_at r
  unfolding permutations factorial
  at_place = arranged_is 8 255 r (omega arith) (ap length all_members) h ∙ ap (λ (vs : List ℕ). get_or (orders 8 vs) r []) all_members

  neighbor_is : neighbor_of g r ≡ rank_of (map (step g) (permutation_at r))
  unfolding neighbor_of
  neighbor_is =
      ap (λ (v : List ℕ). placed 255 (map (step g) v)) at_place
      ∙ placed_is (map (step g) (permutation_at r)) 255 (omega arith) (subst (λ (vs : List ℕ). Arranges vs (map (step g) (permutation_at r))) (sym all_members) arranges_made)
      ∙ ap (λ (vs : List ℕ). rank_among vs (map (step g) (permutation_at r))) all_members

  pub neighbor_lt : neighbor_of g r < 40320
  neighbor_lt = subst (λ (k : ℕ). k < 40320) (sym neighbor_is) (rank_lt (map (step g) (permutation_at r)) arranges_made)

  pub neighbor_at : permutation_at (neighbor_of g r) ≡ map (step g) (permutation_at r)
  neighbor_at = ap permutation_at neighbor_is ∙ at_rank (map (step g) (permutation_at r)) arranges_made
