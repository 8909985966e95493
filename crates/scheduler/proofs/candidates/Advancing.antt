-- The four cases of `advance`, with the problem's own numbers of gates and layouts and its gate limit.
use mathlib.Core.Path.{◌≡◌, refl, sym, ap, ◌∙◌}
use mathlib.Core.Bool.{Bool, true, false}
use mathlib.Core.List.{List, [], ◌∷◌}
use Prim.Native.Nat.{ℕ, zero, suc, ◌+◌, ◌<◌, ◌≤◌}
use native.Mathlib.Omega.{arith}
use lib.ListN.{length, take, replicate}
use Rattle.problem.specs.Problems.{Problem}
use Rattle.scheduler.specs.declared.candidates.Place.{Place}
use Rattle.scheduler.specs.candidates.Inner.{over, bump, after_at}
use Rattle.scheduler.specs.candidates.Left.{left, digits_at}
use Rattle.scheduler.proofs.candidates.Odometer.{next_layout, next_list, next_length, at_end}

take_replicate : (n m : ℕ) → n ≤ m → take n (replicate {A = ℕ} m 0) ≡ replicate n 0
take_replicate zero m h = refl
take_replicate (suc n) zero h = absurd (omega arith)
take_replicate (suc n) (suc m) h = ap (λ (l : List ℕ). 0 ∷ l) (take_replicate n m (omega arith))

module _ (at : Place) (gates layouts most : ℕ) (P : Problem)
    (g : gates ≡ length P.gates) (l : layouts ≡ length P.layouts) (m : most ≡ P.most_gates) (x : ℕ) (e : x ≡ at.layout) where
  pub to_layout : x + 1 < layouts → left P (digits_at at) (x + 1) ≡ after_at P at
  to_layout h = ap (λ (p : ℕ). left P (digits_at at) (p + 1)) e ∙ next_layout P (digits_at at) at.layout (omega arith)

  module _ (some-layout : 0 < layouts) (last : layouts ≤ x + 1) (t : Bool) (f : t ≡ over gates (digits_at at)) where
    tested : over (length P.gates) (digits_at at) ≡ t
    tested = ap (λ (n : ℕ). over n (digits_at at)) (sym g) ∙ sym f

    pub to_list : t ≡ false → (b : List ℕ) → b ≡ bump gates (digits_at at) → left P b 0 ≡ after_at P at
    to_list k b h =
        ap (λ (ds : List ℕ). left P ds 0) (h ∙ ap (λ (n : ℕ). bump n (digits_at at)) g)
        ∙ next_list P (digits_at at) at.layout (omega arith) (omega arith) (tested ∙ k)

    module _ (k : t ≡ true) (len : length (digits_at at) ≡ at.len) where
      pub to_length : 0 < gates → at.len < most → most ≤ 12 → left P (take (at.len + 1) (replicate 12 0)) 0 ≡ after_at P at
      to_length some-gate h few =
          let n : at.len + 1 ≡ length (digits_at at) + 1 = omega arith in
          ap (λ (ds : List ℕ). left P ds 0) (take_replicate (at.len + 1) 12 (omega arith) ∙ ap (λ (n : ℕ). replicate n 0) n)
          ∙ next_length P (digits_at at) at.layout (omega arith) (omega arith) (omega arith) (tested ∙ k) (omega arith)

      pub to_end : most ≤ at.len → [] ≡ after_at P at
      to_end h = at_end P (digits_at at) at.layout (omega arith) (omega arith) (tested ∙ k) (omega arith)
