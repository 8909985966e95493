-- Gates of at most one control stay within a span that has the column of ones; each other gate adds one vector, its product.
use mathlib.Core.Path.{◌≡◌, refl, sym, ◌∙◌, subst}
use mathlib.Core.Logic.{inl, inr}
use mathlib.Core.Bool.{Bool, true, false, false≢true}
use mathlib.Core.List.{List, [], ◌∷◌}
use Prim.Native.Nat.{ℕ, zero, suc, ◌+◌}
use native.Mathlib.Omega.{arith}
use borrow.Author.Tests.{le-leb}
use lib.Bits.{bit_xor, xor_self}
use lib.Count.{ones}
use lib.Dec.{leb}
use lib.ListN.{length, get_or, set}
use Rattle.logic.specs.Rules.{pick}
use Rattle.logic.specs.Lists.{along, total}
use Rattle.gate.specs.Gates.{mask_of, lowest, kind_for, gate_of}
use Rattle.gate.specs.Inner.{firing, column_step}
use Rattle.circuit.specs.run.Inner.{columns_after}
use Rattle.bounds.specs.budget.Heavy.{heavy, heavies}
use Rattle.logic.proofs.Xor.{Linear}
use Rattle.bounds.proofs.span.Spanned.{Span, span_zero, span_xor}

-- what holds of a list's numbers and of the one written holds of the numbers after the write
after_set : (P : ℕ → Type 0) (l : List ℕ) (i a w : ℕ) → P a → P (get_or l w 0) → P (get_or (set l i a) w 0)
after_set P [] i a w p q = q
after_set P (x ∷ l) zero a zero p q = p
after_set P (x ∷ l) zero a (suc w) p q = q
after_set P (x ∷ l) (suc i) a zero p q = q
after_set P (x ∷ l) (suc i) a (suc w) p q = after_set P l i a w p q

module _ (f : ℕ → ℕ) (linear : Linear f) (none : f 65535 ≡ 0) where
  -- the images of all columns are spanned
  abbrev Inside : List ℕ → List ℕ → Type 0
  Inside vs cs = (w : ℕ) → Span vs (f (get_or cs w 0))

  light : (vs cs : List ℕ) (n m : ℕ) → leb 2 n ≡ false → Inside vs cs → Span vs (f (firing (kind_for n m) cs))
  light vs cs zero m h k = subst (Span vs) (sym none) (span_zero vs)
  light vs cs (suc zero) m h k = k (lowest m)
  light vs cs (suc (suc n)) m h k = absurd (false≢true (sym h ∙ le-leb 2 (suc (suc n)) (omega arith)))

  stepped : (vs cs : List ℕ) (b : ℕ) → Span vs (f (firing (gate_of b).kind cs)) → Inside vs cs → Inside vs (column_step (gate_of b) cs)
  unfolding column_step
  stepped vs cs b p k w =
      let t = (gate_of b).target in
      let e = firing (gate_of b).kind cs in
      after_set (λ x. Span vs (f x)) cs t (bit_xor (get_or cs t 0) e) w
      (subst (Span vs) (sym (linear (get_or cs t 0) e)) (span_xor vs (f (get_or cs t 0)) (f e) (k t) p)) (k w)

  step_light : (vs cs : List ℕ) (b : ℕ) → heavy b ≡ false → Inside vs cs → Inside vs (column_step (gate_of b) cs)
  unfolding heavy gate_of
  step_light vs cs b h k = stepped vs cs b (light vs cs (ones (mask_of b)) (mask_of b) h k) k

  step_heavy : (vs cs : List ℕ) (b : ℕ) → Inside vs cs → Inside (f (firing (gate_of b).kind cs) ∷ vs) (column_step (gate_of b) cs)
  step_heavy vs cs b k =
      let e = f (firing (gate_of b).kind cs) in
      stepped (e ∷ vs) cs b (inr (subst (Span vs) (sym (xor_self e)) (span_zero vs))) (λ w. inl (k w))

  -- after a list, by as many vectors more as it has gates of two or more controls
  pub run : (e vs cs : List ℕ) → Inside vs cs → (ws : List ℕ) × (length ws ≡ length vs + heavies e) × Inside ws (columns_after e cs)
  unfolding along heavies total
  run [] vs cs k = (vs, omega arith, k)
  run (b ∷ e) vs cs k = by_weight (heavy b) refl (λ us. run e us (column_step (gate_of b) cs))
    where
      by_weight : (t : Bool) → heavy b ≡ t
          → ((us : List ℕ) → Inside us (column_step (gate_of b) cs) → (ws : List ℕ) × (length ws ≡ length us + heavies e) × Inside ws (columns_after e (column_step (gate_of b) cs)))
          → (ws : List ℕ) × (length ws ≡ length vs + (pick t 1 0 + heavies e)) × Inside ws (columns_after e (column_step (gate_of b) cs))
      by_weight true h go = let t = go (f (firing (gate_of b).kind cs) ∷ vs) (step_heavy vs cs b k) in (t.0, omega (arith, t.1), t.2)
      by_weight false h go = let t = go vs (step_light vs cs b h k) in (t.0, omega (arith, t.1), t.2)
