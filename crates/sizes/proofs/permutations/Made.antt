-- A permutation is made by k + 1 gates exactly where one of its neighbors is made by k: the last gate undoes itself.
use mathlib.Core.Path.{◌≡◌, refl, sym, ap, ◌∙◌, subst}
use mathlib.Core.Bool.{Bool, true, false≢true}
use mathlib.Core.Logic.{⊎_elim}
use mathlib.Core.List.{List, [], ◌∷◌, ◌++◌, map, Memᴰ}
use Prim.Native.Nat.{ℕ, zero, suc, ◌<◌}
use native.Mathlib.Omega.{arith}
use borrow.Author.Tests.{eq-eqb, eqb-true}
use lib.Dec.{eqb}
use lib.ListN.{length, get_or, length-append}
use Rattle.logic.specs.Lists.{along, Among}
use Rattle.logic.proofs.Chain.{either_cases, either_first, either_second}
use Rattle.logic.proofs.Below.{below}
use Rattle.logic.proofs.Counts.{all_below_law}
use Rattle.logic.proofs.Fold.{along_append}
use Rattle.logic.proofs.Members.{member_at, among_nil, among_cons, among_append}
use Rattle.gate.specs.Gates.{step}
use Rattle.gate.proofs.Tables.{among_lawful}
use Rattle.circuit.specs.run.Run.{forwards}
use Rattle.circuit.proofs.run.Reversal.{stays}
use Rattle.problem.specs.order.Choices.{lists}
use Rattle.problem.proofs.order.Enumeration.{lists_is, lists_has}
use Rattle.sizes.specs.permutations.Orders.{eight, Arranges}
use Rattle.sizes.specs.permutations.Sizes.{twelve, Makes, made, some_of, made_by}
use Rattle.sizes.proofs.permutations.Lists.{map_at}
use Rattle.sizes.proofs.permutations.Masks.{eight_lt, step_back}

module _ {A : Type 0} (f : A → Bool) where
  pub some_of_is : (l : List A) → some_of f l ≡ true → (a : A) × (Memᴰ a l × (f a ≡ true))
  unfolding some_of
  some_of_is [] h = absurd (false≢true h)
  some_of_is (x ∷ l) h =
      ⊎_elim
      (λ (e : f x ≡ true). (x, (Memᴰ.head refl, e)))
      (λ (e : some_of f l ≡ true). let r = some_of_is l e in (r.0, (Memᴰ.tail r.1.0, r.1.1)))
      (either_cases (f x) (some_of f l) h)

  pub some_of_has : (a : A) (l : List A) → Memᴰ a l → f a ≡ true → some_of f l ≡ true
  unfolding some_of
  some_of_has a [] m h = absurd (mathlib.Core.List.Memᴰ.not-nil m)
  some_of_has a (x ∷ l) m h =
      ⊎_elim
      (λ (e : a ≡ x). either_first (f x) (some_of f l) (sym (ap f e) ∙ h))
      (λ (n : Memᴰ a l). either_second (f x) (some_of f l) (some_of_has a l n h))
      (mathlib.Core.List.Memᴰ.cases_cons m)

abbrev agrees_at : List ℕ → List ℕ → ℕ → Bool
agrees_at v l x = eqb (forwards l x) (get_or v x 0)

-- a permutation that k gates make, as a test and in words
pub made_is : (v : List ℕ) (k : ℕ) → made_by v k ≡ true → (l : List ℕ) × (Among twelve l × ((length l ≡ k) × Makes v l))
unfolding made_by made
made_is v k h =
    let r = some_of_is (made v) (lists twelve k) h in
    let p = lists_is twelve k r.0 r.1.0 in
    (r.0, (p.0, (p.1, λ x hx. eqb-true (forwards r.0 x) (get_or v x 0) (below 8 (agrees_at v r.0) r.1.1 x hx))))

pub made_has : (v l : List ℕ) → Among twelve l → Makes v l → made_by v (length l) ≡ true
unfolding made_by made
made_has v l a m =
    some_of_has (made v) l (lists twelve (length l)) (lists_has twelve l a)
    (all_below_law (agrees_at v l) 8 (λ x hx. eq-eqb (forwards l x) (get_or v x 0) (m x hx)))

-- a list that is not empty has a last element
last_of : (k : ℕ) (l : List ℕ) → length l ≡ suc k → (m : List ℕ) × ((g : ℕ) × (l ≡ m ++ (g ∷ [])))
last_of k [] h = absurd (omega arith)
last_of zero (g ∷ []) h = ([], (g, refl))
last_of zero (g ∷ x ∷ l) h = absurd (omega arith)
last_of (suc k) (g ∷ l) h = let r = last_of k l (omega arith) in (g ∷ r.0, (r.1.0, ap (λ (t : List ℕ). g ∷ t) r.1.1))

run_more : (l : List ℕ) (g x : ℕ) → forwards (l ++ (g ∷ [])) x ≡ step g (forwards l x)
unfolding along
run_more l g x = along_append step l (g ∷ []) x

module _ (v : List ℕ) (a : Arranges eight v) where
  pub value_lt : (x : ℕ) → x < 8 → get_or v x 0 < 8
  value_lt x h = eight_lt (get_or v x 0) (a.among (get_or v x 0) (member_at v x (let e = a.same_length in omega arith)))

  stepped_at : (g x : ℕ) → x < 8 → get_or (map (step g) v) x 0 ≡ step g (get_or v x 0)
  stepped_at g x h = map_at (step g) v x 0 0 (let e = a.same_length in omega arith)

  pub made_next : (g k : ℕ) → Memᴰ g twelve → made_by (map (step g) v) k ≡ true → made_by v (suc k) ≡ true
  made_next g k m h =
      let r = made_is (map (step g) v) k h in
      let l = r.0 in
      let e : length (l ++ (g ∷ [])) ≡ suc k = length-append l (g ∷ []) ∙ (let q = r.1.1.0 in omega arith) in
      subst (λ (n : ℕ). made_by v n ≡ true) e
      (made_has v (l ++ (g ∷ [])) (among_append l (g ∷ []) r.1.0 (among_cons m among_nil)) (λ x hx.
      run_more l g x ∙ ap (step g) (r.1.1.1 x hx ∙ stepped_at g x hx) ∙ step_back g (get_or v x 0) m (value_lt x hx)))

  pub made_from : (k : ℕ) → made_by v (suc k) ≡ true → (g : ℕ) × (Memᴰ g twelve × (made_by (map (step g) v) k ≡ true))
  made_from k h =
      let r = made_is v (suc k) h in
      let s = last_of k r.0 r.1.1.0 in
      let l = s.0 in
      let g = s.1.0 in
      let among : Among twelve (l ++ (g ∷ [])) = subst (Among twelve) s.1.1 r.1.0 in
      let m : Memᴰ g twelve = among g (mathlib.Core.List.Memᴰ.append_right l (Memᴰ.head refl)) in
      let front : Among twelve l = λ x n. among x (mathlib.Core.List.Memᴰ.append_left (g ∷ []) n) in
      let e : length l ≡ k = (let p = length-append l (g ∷ []) in let q = ap length s.1.1 in let o = r.1.1.0 in omega arith) in (
        g,
        (
          m,
          subst (λ (n : ℕ). made_by (map (step g) v) n ≡ true) e
              (made_has (map (step g) v) l front (λ x hx.
              sym (step_back g (forwards l x) m (stays 2 3 l x (among_lawful 2 3 l front) hx))
              ∙ ap (step g) (sym (run_more l g x) ∙ ap (λ (t : List ℕ). forwards t x) (sym s.1.1) ∙ r.1.1.1 x hx)
              ∙ sym (stepped_at g x hx))),
        ),
      )
