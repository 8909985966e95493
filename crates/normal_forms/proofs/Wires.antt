-- The wires of a lawful gate: its byte and its kind tell the same.
use mathlib.Core.Path.{◌≡◌, refl, sym, ap, ap₂, ◌∙◌}
use mathlib.Core.Bool.{Bool, true, false, not}
use mathlib.Core.Logic.{⊎_elim}
use Prim.Native.Nat.{ℕ, ◌%◌, ◌^◌, ◌<◌}
use native.Mathlib.Nat.{zero-div}
use native.Mathlib.Omega.{arith}
use borrow.Author.Tests.{eqb-true, eqb-false, eq-eqb, not-true}
use lib.Bits.{bit_and}
use lib.Count.{ones, ones_in, count_trailing_zeros, count_leading_zeros}
use lib.Dec.{eqb}
use Rattle.logic.specs.Rules.{both, either, implies, all_below}
use Rattle.logic.specs.Bit.{bit_of}
use Rattle.logic.proofs.Below.{below}
use Rattle.logic.proofs.Bits.{bit_and_law}
use Rattle.logic.proofs.Chain.{both_left, both_right, either_cases, either_first, either_second, implied, not_so}
use Rattle.gate.specs.declared.Gate.{Gate}
use Rattle.gate.specs.Gates.{target_of, mask_of, lawful, gate_of}
use Rattle.gate.proofs.Widen.{parts, lawful_lt}
use Rattle.circuit.proofs.Times.{holds_control, holds}
use Rattle.normal_forms.specs.Forms.{controlled, wires_of, commuting, disjoint}

-- neither gate's target is a control of the other
pub record Commute (g h : Gate) : Type 0 where
  pub first_free : holds_control g.kind h.target ≡ false
  pub second_free : holds_control h.kind g.target ≡ false

-- no wire belongs to both gates
abbrev pub Apart : Gate → Gate → Type 0
Apart g h = (w : ℕ) → w < 5 → holds g w ≡ true → holds h w ≡ true → ⊥

-- two tests agree
abbrev pub same : Bool → Bool → Bool
same a b = either (both a b) (both (not a) (not b))

-- computed for every lawful byte and every wire
abbrev told : ℕ → ℕ → Bool
told b w = both (same (holds_control (gate_of b).kind w) (controlled b w)) (same (holds (gate_of b) w) (eqb (bit_of w (wires_of b)) 1))

abbrev tells : ℕ → Bool
tells b = implies (lawful 3 5 b) (all_below 5 (told b))

tells_all : all_below 160 tells ≡ true
unfolding lawful gate_of ones ones_in count_trailing_zeros count_leading_zeros
tells_all = refl

pub same_is : (a b : Bool) → same a b ≡ true → a ≡ b
same_is true true h = refl
same_is true false h = sym h
same_is false true h = h
same_is false false h = refl

module _ (b : ℕ) (h : lawful 3 5 b ≡ true) where
  told_at : (w : ℕ) → w < 5 → told b w ≡ true
  told_at w k = below 5 (told b) (implied (lawful 3 5 b) (all_below 5 (told b)) (below 160 tells tells_all b (lawful_lt 3 5 b (omega arith) h)) h) w k

  control_is : (w : ℕ) → w < 5 → holds_control (gate_of b).kind w ≡ controlled b w
  control_is w k =
      let s = same (holds_control (gate_of b).kind w) (controlled b w) in
      same_is (holds_control (gate_of b).kind w) (controlled b w) (both_left s (same (holds (gate_of b) w) (eqb (bit_of w (wires_of b)) 1)) (told_at w k))

  wire_is : (w : ℕ) → w < 5 → holds (gate_of b) w ≡ eqb (bit_of w (wires_of b)) 1
  wire_is w k =
      let s = same (holds_control (gate_of b).kind w) (controlled b w) in
      same_is (holds (gate_of b) w) (eqb (bit_of w (wires_of b)) 1) (both_right s (same (holds (gate_of b) w) (eqb (bit_of w (wires_of b)) 1)) (told_at w k))

  pub target_lt : (gate_of b).target < 5
  unfolding gate_of
  target_lt = (parts 3 5 b h).target

target_held : (g : Gate) → holds g g.target ≡ true
target_held g = either_first (eqb g.target g.target) (holds_control g.kind g.target) (eq-eqb g.target g.target refl)

module _ (a b : ℕ) (ha : lawful 3 5 a ≡ true) (hb : lawful 3 5 b ≡ true) where
  pub commute_of : commuting a b ≡ true → Commute (gate_of a) (gate_of b)
  unfolding commuting gate_of
  commute_of c =
      let p = not (controlled b (target_of a)) in
      let q = not (controlled a (target_of b)) in
      record {
        first_free = control_is a ha (target_of b) (parts 3 5 b hb).target ∙ not-true (controlled a (target_of b)) (both_right p q c);
        second_free = control_is b hb (target_of a) (parts 3 5 a ha).target ∙ not-true (controlled b (target_of a)) (both_left p q c);
      }

  pub apart_of : disjoint a b ≡ true → Apart (gate_of a) (gate_of b)
  unfolding disjoint gate_of
  apart_of c w k ta tb =
      let one = eqb-true (bit_of w (wires_of b)) 1 (sym (wire_is b hb w k) ∙ tb) in
      let t = not (eqb (bit_of (target_of a) (wires_of b)) 1) in
      let m = eqb (bit_and (mask_of a) (wires_of b)) 0 in
      ⊎_elim
      (λ (e : eqb w (target_of a) ≡ true).
      eqb-false (bit_of (target_of a) (wires_of b)) 1 (not-true (eqb (bit_of (target_of a) (wires_of b)) 1) (both_left t m c))
      (ap (λ (x : ℕ). bit_of x (wires_of b)) (sym (eqb-true w (target_of a) e)) ∙ one))
      (λ (e : holds_control (gate_of a).kind w ≡ true). meet w one (eqb-true (bit_of w (mask_of a)) 1 (sym (control_is a ha w k) ∙ e)) (eqb-true (bit_and (mask_of a) (wires_of b)) 0 (both_right t m c)))
      (either_cases (eqb w (target_of a)) (holds_control (gate_of a).kind w) ta)
    where
      meet : (w : ℕ) → bit_of w (wires_of b) ≡ 1 → bit_of w (mask_of a) ≡ 1 → bit_and (mask_of a) (wires_of b) ≡ 0 → ⊥
      meet w p q z =
          let e : bit_and 1 1 ≡ 0 = ap₂ bit_and (sym q) (sym p) ∙ sym (bit_and_law w (mask_of a) (wires_of b)) ∙ ap (bit_of w) z ∙ ap (λ (x : ℕ). x % 2) (zero-div (2 ^ w)) in
          omega arith

-- a lawful gate commutes with itself
pub commuting_self : (b : ℕ) → lawful 3 5 b ≡ true → commuting b b ≡ true
unfolding commuting
commuting_self b h = rw (parts 3 5 b h).apart

-- gates with no wire in common commute
pub commute_apart : (a b : ℕ) → lawful 3 5 a ≡ true → lawful 3 5 b ≡ true → Apart (gate_of a) (gate_of b) → Commute (gate_of a) (gate_of b)
commute_apart a b ha hb d = record {
  first_free = not_so (holds_control (gate_of a).kind (gate_of b).target)
      (λ t. d (gate_of b).target (target_lt b hb) (either_second (eqb (gate_of b).target (gate_of a).target) (holds_control (gate_of a).kind (gate_of b).target) t) (target_held (gate_of b)));
  second_free = not_so (holds_control (gate_of b).kind (gate_of a).target)
      (λ t. d (gate_of a).target (target_lt a ha) (target_held (gate_of a)) (either_second (eqb (gate_of a).target (gate_of b).target) (holds_control (gate_of b).kind (gate_of a).target) t));
}
