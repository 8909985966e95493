-- Every permutation is made by some list of at most 72 gates: at most nine gates exchange two values and leave the others, and eight
-- exchanges put each value into its own row.
use mathlib.Core.Path.{◌≡◌, refl, sym, ap, ◌∙◌, subst}
use mathlib.Core.Bool.{Bool, true}
use mathlib.Core.List.{List, [], ◌∷◌, ◌++◌, map, map-id, map-map}
use Prim.Native.Nat.{ℕ, zero, suc, ◌+◌, ◌-◌, ◌*◌, ◌^◌, ◌≤◌, ◌<◌}
use native.Mathlib.Decide.{ℕ_discrete}
use native.Mathlib.Nat.{zero-add, suc-add}
use native.Mathlib.Omega.{arith}
use borrow.Author.Tests.{eq-eqb, ne_eqb, eqb-true, leb-true}
use lib.Count.{ones, ones_in}
use lib.Dec.{eqb, leb}
use lib.ListN.{length, get_or}
use Rattle.logic.specs.Rules.{both, either, pick, all_below}
use Rattle.logic.specs.Bit.{bit_of}
use Rattle.logic.specs.Lists.{all_of, along, Among}
use Rattle.logic.proofs.Chain.{both_left, both_right}
use Rattle.logic.proofs.Below.{below}
use Rattle.logic.proofs.Members.{among_nil, among_head, among_tail}
use Rattle.gate.specs.Gates.{lawful, step}
use Rattle.gate.proofs.Tables.{lawful_among}
use Rattle.circuit.specs.run.Run.{forwards, backwards}
use Rattle.circuit.proofs.run.Reversal.{stays, undone}
use Rattle.sizes.specs.permutations.Orders.{eight, Arranges}
use Rattle.table.specs.Rows.{row_of}
use Rattle.sizes.specs.permutations.Sizes.{twelve, made_by}
use Rattle.sizes.proofs.permutations.Lists.{map_at}
use Rattle.parity.proofs.Distinct.{row_of_at}
use Rattle.sizes.proofs.permutations.Masks.{map_arranges, step_arranges}
use Rattle.sizes.proofs.permutations.Made.{made_has, made_next, value_lt}

-- i and a exchanged
abbrev swapped : ℕ → ℕ → ℕ → ℕ
swapped i a x = pick (eqb x i) a (pick (eqb x a) i x)

-- a wire on which i and a differ; CNOTs from it to the others on which they do make it the only one; NOTs put the other two at 1, so that a
-- Toffoli exchanges what is left; then NOTs and CNOTs again
abbrev apart_on : ℕ → ℕ → ℕ
apart_on i a = pick (eqb (bit_of 0 i) (bit_of 0 a)) (pick (eqb (bit_of 1 i) (bit_of 1 a)) 2 1) 0

abbrev each_wire : (ℕ → List ℕ) → List ℕ
each_wire f = f 0 ++ (f 1 ++ f 2)

abbrev cnots : ℕ → ℕ → ℕ → List ℕ
cnots i a t = each_wire (λ (w : ℕ). pick (either (eqb w t) (eqb (bit_of w i) (bit_of w a))) [] ((32 * w + 2 ^ t) ∷ []))

abbrev nots : ℕ → ℕ → List ℕ
nots z t = each_wire (λ (w : ℕ). pick (either (eqb w t) (eqb (bit_of w z) 1)) [] ((32 * w) ∷ []))

abbrev around : List ℕ → List ℕ → ℕ → List ℕ
around cs ns t = cs ++ (ns ++ ((32 * t + (7 - 2 ^ t)) ∷ (ns ++ cs)))

abbrev exchange_on : ℕ → ℕ → ℕ → List ℕ
exchange_on i a t = around (cnots i a t) (nots (pick (eqb (bit_of t i) 0) i a) t) t

unfoldable exchange : ℕ → ℕ → List ℕ
exchange i a = pick (eqb i a) [] (exchange_on i a (apart_on i a))

-- computed for every two values
abbrev goes_to : ℕ → ℕ → ℕ → Bool
goes_to i a x = eqb (forwards (exchange i a) x) (swapped i a x)

abbrev exchanges : ℕ → ℕ → Bool
exchanges i a = both (leb (length (exchange i a)) 9) (both (all_of (lawful 2 3) (exchange i a)) (all_below 8 (goes_to i a)))

abbrev exchanges_all : ℕ → Bool
exchanges_all i = all_below 8 (exchanges i)

all_exchanged : all_below 8 exchanges_all ≡ true
unfolding exchange all_of along lawful step ones ones_in
all_exchanged = refl

module _ (i a : ℕ) (hi : i < 8) (ha : a < 8) where
  exchanged : exchanges i a ≡ true
  exchanged = below 8 (exchanges i) (below 8 exchanges_all all_exchanged i hi) a ha

  lawful_and_goes : both (all_of (lawful 2 3) (exchange i a)) (all_below 8 (goes_to i a)) ≡ true
  lawful_and_goes = both_right (leb (length (exchange i a)) 9) (both (all_of (lawful 2 3) (exchange i a)) (all_below 8 (goes_to i a))) exchanged

  few : length (exchange i a) ≤ 9
  few = leb-true (length (exchange i a)) 9 (both_left (leb (length (exchange i a)) 9) (both (all_of (lawful 2 3) (exchange i a)) (all_below 8 (goes_to i a))) exchanged)

  kept : all_of (lawful 2 3) (exchange i a) ≡ true
  kept = both_left (all_of (lawful 2 3) (exchange i a)) (all_below 8 (goes_to i a)) lawful_and_goes

  goes : (x : ℕ) → x < 8 → forwards (exchange i a) x ≡ swapped i a x
  goes x h =
      eqb-true (forwards (exchange i a) x) (swapped i a x)
      (below 8 (goes_to i a) (both_right (all_of (lawful 2 3) (exchange i a)) (all_below 8 (goes_to i a)) lawful_and_goes) x h)

-- what gates make of a permutation, k gates more make the permutation
made_before : (e v : List ℕ) (k : ℕ) → Among twelve e → Arranges eight v → made_by (map (forwards e) v) k ≡ true → made_by v (length e + k) ≡ true
unfolding along
made_before [] v k w a h = subst (λ (n : ℕ). made_by v n ≡ true) (sym (zero-add k)) (subst (λ (t : List ℕ). made_by t k ≡ true) (map-id v) h)
made_before (g ∷ e) v k w a h =
    let m = among_head w in
    let p = made_before e (map (step g) v) k (among_tail w) (step_arranges g v m a)
    (subst (λ (t : List ℕ). made_by t k ≡ true) (sym (map-map (forwards e) (step g) v)) h) in
    subst (λ (n : ℕ). made_by v n ≡ true) (sym (suc-add (length e) k)) (made_next v a g (length e + k) m p)

-- the first rows have their own numbers
abbrev Sorted : ℕ → List ℕ → Type 0
Sorted i v = (j : ℕ) → j < i → get_or v j 0 ≡ j

module _ (i : ℕ) (v : List ℕ) (hi : i < 8) (a : Arranges eight v) (sorted : Sorted i v) where
  abbrev x : ℕ
  x = get_or v i 0

  abbrev e : List ℕ
  e = exchange i x

  low : x < 8
  low = value_lt v a i hi

  inside : (j : ℕ) → j < 8 → j < length v
  inside j h = let q = a.same_length in omega arith

  -- a value stands in one row only
  one_row : (j : ℕ) → j < 8 → get_or v j 0 ≡ x → j ≡ i
  one_row j h q =
      sym (row_of_at v j a.once (inside j h)) ∙ ap (λ (y : ℕ). row_of y v) q ∙ row_of_at v i a.once (inside i hi)

  next_arranges : Arranges eight (map (forwards e) v)
  next_arranges =
      map_arranges (forwards e) v (λ y h. stays 2 3 e y (kept i x hi low) h)
      (λ y z h k q.
      sym (undone 2 3 e y (omega arith) (kept i x hi low) h) ∙ ap (backwards e) q ∙ undone 2 3 e z (omega arith) (kept i x hi low) k)
      a

  next_sorted : Sorted (suc i) (map (forwards e) v)
  next_sorted j h = by_place (ℕ_discrete j i)
    where
      moved : j < 8 → get_or (map (forwards e) v) j 0 ≡ swapped i x (get_or v j 0)
      moved k = map_at (forwards e) v j 0 0 (inside j k) ∙ goes i x hi low (get_or v j 0) (value_lt v a j k)

      by_place : Dec (j ≡ i) → get_or (map (forwards e) v) j 0 ≡ j
      by_place (yes q) =
          moved (omega arith) ∙ ap (λ (n : ℕ). swapped i x (get_or v n 0)) q ∙ to_row (ℕ_discrete x i) ∙ sym q
        where
          to_row : Dec (x ≡ i) → swapped i x x ≡ i
          to_row (yes p) = rw (eq-eqb x i p) p
          to_row (no n) = rw (ne_eqb x i n, eq-eqb x x refl)
      by_place (no n) =
          let s = sorted j (omega arith) in
          moved (omega arith) ∙ ap (swapped i x) s
          ∙ rw (ne_eqb j i n, ne_eqb j x (λ (q : j ≡ x). n (one_row j (omega arith) (s ∙ q))))

-- n rows are still to be put in order
reached_from : (n : ℕ) (v : List ℕ) → n ≤ 8 → Arranges eight v → Sorted (8 - n) v → (k : ℕ) × ((k ≤ 9 * n) × (made_by v k ≡ true))
unfolding along
reached_from zero v h a sorted =
    (0, (omega arith, made_has v [] among_nil (λ x k. sym (sorted x (omega arith)))))
reached_from (suc n) v h a sorted =
    let i = 8 - suc n in
    let hi : i < 8 = omega arith in
    let x = get_or v i 0 in
    let low = value_lt v a i hi in
    let e = exchange i x in
    let q : 8 - n ≡ suc i = omega arith in
    let r = reached_from n (map (forwards e) v) (omega arith) (next_arranges i v hi a sorted)
    (subst (λ (m : ℕ). Sorted m (map (forwards e) v)) (sym q) (next_sorted i v hi a sorted)) in
    let f = few i x hi low in
    (length e + r.0, (let s = r.1.0 in omega arith, made_before e v r.0 (lawful_among 2 3 (omega arith) e (kept i x hi low)) a r.1.1))

pub reached : (v : List ℕ) → Arranges eight v → (k : ℕ) × ((k ≤ 72) × (made_by v k ≡ true))
reached v a = reached_from 8 v (omega arith) a (λ j h. absurd (omega arith))
