-- What the two marks of a gate say of the list: where it could have stood, and which gate it would undo.
use mathlib.Core.Path.{◌≡◌, refl, ap}
use mathlib.Core.Bool.{Bool, true, false, false≢true}
use mathlib.Core.Logic.{◌⊎◌, inl, inr, ⊎_elim}
use mathlib.Core.List.{List, [], ◌∷◌, ◌++◌}
use Prim.Native.Nat.{ℕ, ◌<◌}
use native.Mathlib.Omega.{arith}
use borrow.Author.Tests.{ltb-true, eqb-true}
use lib.Dec.{eqb, ltb}
use Rattle.logic.specs.Rules.{both, either}
use Rattle.logic.specs.Lists.{all_of, along}
use Rattle.logic.proofs.Chain.{both_left, both_right, both_true, either_cases}
use Rattle.gate.specs.Gates.{target_of}
use Rattle.normal_forms.specs.Forms.{commuting, disjoint, sleep_step, asleep, cancel_step, cancels}

-- the list has a gate of a greater byte, and from it on only gates that share no wire with b
pub record Early (b : ℕ) (l : List ℕ) : Type 0 where
  pub front : List ℕ
  pub later : ℕ
  pub since : List ℕ
  pub split : l ≡ front ++ (later ∷ since)
  pub less : b < later
  pub past : all_of (disjoint b) (later ∷ since) ≡ true

-- the list has b itself, and after it only gates that commute with b
pub record Again (b : ℕ) (l : List ℕ) : Type 0 where
  pub front : List ℕ
  pub since : List ℕ
  pub split : l ≡ front ++ (b ∷ since)
  pub past : all_of (commuting b) since ≡ true

module _ (b : ℕ) where
  sleeping : (l : List ℕ) (t : Bool) → along (sleep_step b) l t ≡ true → ((t ≡ true) × (all_of (disjoint b) l ≡ true)) ⊎ Early b l
  unfolding along all_of sleep_step
  sleeping [] t h = inl (h, refl)
  sleeping (a ∷ l) t h = by_rest (sleeping l (sleep_step b a t) h)
    where
      by_rest : ((sleep_step b a t ≡ true) × (all_of (disjoint b) l ≡ true)) ⊎ Early b l → ((t ≡ true) × (all_of (disjoint b) (a ∷ l) ≡ true)) ⊎ Early b (a ∷ l)
      by_rest (inr r) = inr (record { front = a ∷ r.front; later = r.later; since = r.since; split = ap (λ (x : List ℕ). a ∷ x) r.split; less = r.less; past = r.past })
      by_rest (inl r) =
          let order = ltb (target_of b) (target_of a) in
          let d = both_left (disjoint b a) (either order t) r.0 in
          let all = both_true {a = disjoint b a} {b = all_of (disjoint b) l} d r.1 in
          ⊎_elim
          (λ (e : order ≡ true). inr (record { front = []; later = a; since = l; split = refl; less = omega (arith, ltb-true (target_of b) (target_of a) e); past = all }))
          (λ (e : t ≡ true). inl (e, all))
          (either_cases order t (both_right (disjoint b a) (either order t) r.0))

  pub early : (l : List ℕ) → asleep b l ≡ true → Early b l
  early l h = by_start (sleeping l false h)
    where
      by_start : ((false ≡ true) × (all_of (disjoint b) l ≡ true)) ⊎ Early b l → Early b l
      by_start (inl r) = absurd (false≢true r.0)
      by_start (inr r) = r

  cancelling : (l : List ℕ) (t : Bool) → along (cancel_step b) l t ≡ true → ((t ≡ true) × (all_of (commuting b) l ≡ true)) ⊎ Again b l
  unfolding along all_of cancel_step
  cancelling [] t h = inl (h, refl)
  cancelling (a ∷ l) t h = by_rest (cancelling l (cancel_step b a t) h)
    where
      by_rest : ((cancel_step b a t ≡ true) × (all_of (commuting b) l ≡ true)) ⊎ Again b l → ((t ≡ true) × (all_of (commuting b) (a ∷ l) ≡ true)) ⊎ Again b (a ∷ l)
      by_rest (inr r) = inr (record { front = a ∷ r.front; since = r.since; split = ap (λ (x : List ℕ). a ∷ x) r.split; past = r.past })
      by_rest (inl r) =
          ⊎_elim
          (λ (e : both (commuting b a) t ≡ true).
          inl (both_right (commuting b a) t e, both_true {a = commuting b a} {b = all_of (commuting b) l} (both_left (commuting b a) t e) r.1))
          (λ (e : eqb a b ≡ true). inr (record { front = []; since = l; split = ap (λ (x : ℕ). x ∷ l) (eqb-true a b e); past = r.1 }))
          (either_cases (both (commuting b a) t) (eqb a b) r.0)

  pub again : (l : List ℕ) → cancels b l ≡ true → Again b l
  again l h = by_start (cancelling l false h)
    where
      by_start : ((false ≡ true) × (all_of (commuting b) l ≡ true)) ⊎ Again b l → Again b l
      by_start (inl r) = absurd (false≢true r.0)
      by_start (inr r) = r
