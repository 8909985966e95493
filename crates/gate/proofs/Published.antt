-- Document 01's step is what source 003 prints, kind by kind: a gate fires exactly where its kind adds 1. Both look at the lowest five
-- bits of a value only, so computing 32 masks on 32 values proves it for all values.
use mathlib.Core.Path.{◌≡◌, refl, sym, ap, ap₂, ◌∙◌}
use mathlib.Core.Bool.{Bool, true, false}
use Prim.Native.Nat.{ℕ, zero, suc, ◌*◌, ◌/◌, ◌%◌, ◌^◌, ◌≤◌, ◌<◌}
use native.Mathlib.Nat.{mod-eq_of_lt, lt_of_lt_of_le}
use native.Mathlib.Omega.{arith}
use borrow.Author.Tests.{eqb-true, ltb-true, le-leb, eq-eqb, ne_eqb}
use lib.Bits.{bit_and, bit_xor, and_mod, and_le_l, xor_zero_r}
use lib.Count.{ones, ones_in, count_trailing_zeros, count_leading_zeros}
use lib.Dec.{eqb, ltb, leb}
use lib.Pow.{pow_mono}
use Rattle.logic.specs.Rules.{both, implies, pick, bit, all_below}
use Rattle.logic.specs.Bit.{bit_of}
use Rattle.logic.proofs.Chain.{both_left, both_right, implied}
use Rattle.logic.proofs.Below.{below}
use Rattle.gate.specs.declared.Kind.{Kind}
use Rattle.gate.specs.declared.Kind.TheVariants.{Not, Cnot, Toffoli, Cccnot}
use Rattle.gate.specs.Gates.{target_of, mask_of, lawful, fires, step, kind_for, gate_of}
use Rattle.gate.specs.Published.{added, published}
use Rattle.gate.proofs.Widen.{parts, widen, lawful_lt}
use Rattle.gate.proofs.Undo.{stay}

-- the control wires are below 5
abbrev pub inside : Kind → Bool
inside Not = true
inside (Cnot a) = ltb a 5
inside (Toffoli a b) = both (ltb a 5) (ltb b 5)
inside (Cccnot a b c) = both (both (ltb a 5) (ltb b 5)) (ltb c 5)

abbrev same_fire : ℕ → ℕ → Bool
same_fire m v = eqb (bit (fires m v)) (added (kind_for (ones m) m) v)

abbrev right_mask : ℕ → Bool
right_mask m = implies (leb (ones m) 3) (both (inside (kind_for (ones m) m)) (all_below 32 (same_fire m)))

right_masks : all_below 32 right_mask ≡ true
unfolding ones ones_in count_trailing_zeros count_leading_zeros
right_masks = refl

-- only the lowest five bits count
and_low : (m v : ℕ) → m < 32 → bit_and m v ≡ bit_and m (v % 32)
and_low m v h = sym (mod-eq_of_lt (omega (arith, and_le_l m v))) ∙ and_mod m v 5 ∙ ap (λ (x : ℕ). bit_and x (v % 32)) (mod-eq_of_lt h)

bit_low : (a v : ℕ) → a < 5 → bit_of a v ≡ bit_of a (v % 32)
bit_low zero v h = omega arith
bit_low (suc zero) v h = omega arith
bit_low (suc (suc zero)) v h = omega arith
bit_low (suc (suc (suc zero))) v h = omega arith
bit_low (suc (suc (suc (suc zero)))) v h = omega arith
bit_low (suc (suc (suc (suc (suc a))))) v h = absurd (omega arith)

both_low : (a b v : ℕ) → both (ltb a 5) (ltb b 5) ≡ true → bit_of a v * bit_of b v ≡ bit_of a (v % 32) * bit_of b (v % 32)
both_low a b v h =
    ap₂ ◌*◌ (bit_low a v (ltb-true a 5 (both_left (ltb a 5) (ltb b 5) h))) (bit_low b v (ltb-true b 5 (both_right (ltb a 5) (ltb b 5) h)))

added_low : (k : Kind) (v : ℕ) → inside k ≡ true → added k v ≡ added k (v % 32)
added_low Not v h = refl
added_low (Cnot a) v h = bit_low a v (ltb-true a 5 h)
added_low (Toffoli a b) v h = both_low a b v h
added_low (Cccnot a b c) v h =
    let two = both (ltb a 5) (ltb b 5) in
    ap₂ ◌*◌ (both_low a b v (both_left two (ltb c 5) h)) (bit_low c v (ltb-true c 5 (both_right two (ltb c 5) h)))

pub fire_bit : (m v : ℕ) → m < 32 → ones m ≤ 3 → bit (fires m v) ≡ added (kind_for (ones m) m) v
fire_bit m v hm few =
    let k = kind_for (ones m) m in
    let r = implied (leb (ones m) 3) (both (inside k) (all_below 32 (same_fire m))) (below 32 right_mask right_masks m hm) (le-leb (ones m) 3 few) in
    let s = below 32 (same_fire m) (both_right (inside k) (all_below 32 (same_fire m)) r) (v % 32) (omega arith) in
    ap (λ (x : ℕ). bit (eqb x m)) (and_low m v hm)
    ∙ eqb-true (bit (fires m (v % 32))) (added k (v % 32)) s
    ∙ sym (added_low k v (both_left (inside k) (all_below 32 (same_fire m)) r))

flipped : (f : Bool) (v t : ℕ) → pick f (bit_xor v (2 ^ t)) v ≡ bit_xor v (bit f * 2 ^ t)
flipped true v t = ap (bit_xor v) (omega arith)
flipped false v t = sym (ap (bit_xor v) (omega arith) ∙ xor_zero_r v)

-- the step of a gate of at most three controls, as one exclusive or at its target
pub by_kind : (b v : ℕ) → ones (mask_of b) ≤ 3 → step b v ≡ bit_xor v (added (kind_for (ones (mask_of b)) (mask_of b)) v * 2 ^ target_of b)
unfolding step
by_kind b v few =
    flipped (fires (mask_of b) v) v (target_of b) ∙ ap (λ (x : ℕ). bit_xor v (x * 2 ^ target_of b)) (fire_bit (mask_of b) v (omega arith) few)

-- an arm of the code: it is the step if it adds what the kind with n controls adds
pub arm : (b v x n r : ℕ) → x ≡ b → n ≤ 3 → ones (mask_of b) ≡ n → r ≡ bit_xor v (added (kind_for n (mask_of b)) v * 2 ^ (x / 32)) → r ≡ step b v
arm b v x n r e few h q =
    q
    ∙ ap (λ (y : ℕ). bit_xor v (added (kind_for n (mask_of b)) v * 2 ^ (y / 32))) e
    ∙ sym (by_kind b v (omega arith) ∙ ap (λ (k : ℕ). bit_xor v (added (kind_for k (mask_of b)) v * 2 ^ target_of b)) h)

abbrev right_bit : ℕ → ℕ → ℕ → Bool
right_bit b v w = eqb (bit_of w (step b v)) (published b v w)

abbrev right_bits : ℕ → ℕ → Bool
right_bits b v = all_below 5 (right_bit b v)

abbrev right_gate : ℕ → Bool
right_gate b = implies (lawful 3 5 b) (both (inside (gate_of b).kind) (all_below 32 (right_bits b)))

right_all_law : all_below 160 right_gate ≡ true
unfolding lawful step gate_of ones ones_in count_trailing_zeros count_leading_zeros
right_all_law = refl

module _ (b : ℕ) (h : lawful 3 5 b ≡ true) where
  right : both (inside (gate_of b).kind) (all_below 32 (right_bits b)) ≡ true
  right =
      implied (lawful 3 5 b) (both (inside (gate_of b).kind) (all_below 32 (right_bits b)))
      (below 160 right_gate right_all_law b (lawful_lt 3 5 b (omega arith) h)) h

  -- the control wires of a lawful gate are below 5
  pub wires_inside : inside (gate_of b).kind ≡ true
  wires_inside = both_left (inside (gate_of b).kind) (all_below 32 (right_bits b)) right

  -- after the step every wire has the published bit
  pub bit_after : (v w : ℕ) → v < 32 → w < 5 → bit_of w (step b v) ≡ published b v w
  bit_after v w hv hw =
      eqb-true (bit_of w (step b v)) (published b v w)
      (below 5 (right_bit b v) (below 32 (right_bits b) (both_right (inside (gate_of b).kind) (all_below 32 (right_bits b)) right) v hv) w hw)

-- Demand 2's "what the published gate definitions give", for W = 3, 4 and 5 and fewer: every lawful gate, of two controls and of
-- three, on every value below 2^W
module _ (k w b v : ℕ) (hk : k ≤ 3) (hw : w ≤ 5) (h : lawful k w b ≡ true) (hv : v < 2 ^ w) where
  pub as_published : (x : ℕ) → x < 5 → bit_of x (step b v) ≡ published b v x
  as_published x hx = bit_after b (widen k w 3 5 b hk hw h) v x (lt_of_lt_of_le hv (pow_mono hw)) hx

  pub target_gets : bit_of (target_of b) (step b v) ≡ bit_xor (bit_of (target_of b) v) (added (gate_of b).kind v)
  target_gets =
      let t : target_of b < 5 = lt_of_lt_of_le (parts k w b h).target hw in
      as_published (target_of b) t ∙ rw (eq-eqb (target_of b) (target_of b) refl)

  pub others_keep : (x : ℕ) → x < 5 → (x ≡ target_of b → ⊥) → bit_of x (step b v) ≡ bit_of x v
  others_keep x hx n = as_published x hx ∙ rw (ne_eqb x (target_of b) n)

  -- and no wire beyond W comes to be 1
  pub stays_below : step b v < 2 ^ w
  stays_below = stay k w b v h hv
