-- The marks say exactly which gates could have stood earlier or would undo an earlier one: each bit of the words follows the test of its
-- gate.
use mathlib.Core.Path.{◌≡◌, refl, ap, ap₂, ◌∙◌}
use mathlib.Core.Bool.{Bool, true, false, not}
use mathlib.Core.List.{List, [], ◌∷◌, Memᴰ}
use Prim.Native.Nat.{ℕ, zero, suc, ◌^◌, ◌<◌}
use native.Mathlib.Nat.{zero-div}
use native.Mathlib.Omega.{arith}
use native.Mathlib.Decide.{ℕ_discrete}
use borrow.Author.Tests.{eqb-true, eq-eqb, ne_eqb}
use lib.Bits.{bit_and, bit_or, or_lt}
use lib.Pow.{pow-lt}
use lib.Dec.{eqb, ltb}
use lib.ListN.{get_or}
use Rattle.logic.specs.Rules.{both, either, pick, all_below}
use Rattle.logic.specs.Lists.{along}
use Rattle.logic.specs.Bit.{bit_of}
use Rattle.logic.proofs.Below.{below}
use Rattle.logic.proofs.Bits.{bit_and_law, bit_or_law}
use Rattle.logic.proofs.Chain.{both_left, both_right, not_so}
use Rattle.gate.specs.Gates.{target_of, mask_of}
use Rattle.normal_forms.specs.Forms.{controlled, wires_of, commuting, disjoint, sleep_step, asleep, cancel_step, cancels}
use Rattle.normal_forms.proofs.Wires.{same, same_is}
use Rattle.normal_forms.specs.words.Words.{every, clear_of, sleep_word, cancel_word}
use Rattle.normal_forms.specs.declared.masks.Masks.{Masks}
use Rattle.normal_forms.specs.masks.Words.{five, no_masks, stepped, masks_after, marked}

-- a bit as a truth
abbrev on : ℕ → ℕ → Bool
on n word = eqb (bit_of n word) 1

-- the bits of a conjunction and a disjunction
two_bits : (x y : ℕ) → x < 2 → y < 2 → (eqb (bit_and x y) 1 ≡ both (eqb x 1) (eqb y 1)) × (eqb (bit_or x y) 1 ≡ either (eqb x 1) (eqb y 1))
two_bits zero zero hx hy = (refl, refl)
two_bits zero (suc zero) hx hy = (refl, refl)
two_bits (suc zero) zero hx hy = (refl, refl)
two_bits (suc zero) (suc zero) hx hy = (refl, refl)
two_bits (suc (suc x)) y hx hy = absurd (omega arith)
two_bits zero (suc (suc y)) hx hy = absurd (omega arith)
two_bits (suc zero) (suc (suc y)) hx hy = absurd (omega arith)

module _ (n : ℕ) where
  on_and : (a b : ℕ) → on n (bit_and a b) ≡ both (on n a) (on n b)
  on_and a b = ap (λ (x : ℕ). eqb x 1) (bit_and_law n a b) ∙ (two_bits (bit_of n a) (bit_of n b) (omega arith) (omega arith)).0

  on_or : (a b : ℕ) → on n (bit_or a b) ≡ either (on n a) (on n b)
  on_or a b = ap (λ (x : ℕ). eqb x 1) (bit_or_law n a b) ∙ (two_bits (bit_of n a) (bit_of n b) (omega arith) (omega arith)).1

  on_none : on n 0 ≡ false
  on_none = rw (zero-div (2 ^ n))

-- computed: the patterns of all sets of wires, one wire's pattern, all ones and a single one, at every control mask
abbrev right : ℕ → ℕ → Bool
right wires n = same (on n (clear_of wires)) (eqb (bit_and n wires) 0)

abbrev right_all : ℕ → Bool
right_all wires = all_below 32 (right wires)

right_all_law : all_below 32 right_all ≡ true
unfolding clear_of
right_all_law = refl

abbrev lone : ℕ → ℕ → Bool
lone t n = same (eqb (bit_and n (2 ^ t)) 0) (not (on t n))

abbrev lone_all : ℕ → Bool
lone_all t = all_below 32 (lone t)

abbrev single : ℕ → ℕ → Bool
single m n = same (on n (2 ^ m)) (eqb n m)

abbrev single_all : ℕ → Bool
single_all m = all_below 32 (single m)

abbrev full : ℕ → Bool
full n = on n every

module _ (n : ℕ) (hn : n < 32) where
  clear_at : (wires : ℕ) → wires < 32 → on n (clear_of wires) ≡ eqb (bit_and n wires) 0
  clear_at wires h = same_is (on n (clear_of wires)) (eqb (bit_and n wires) 0) (below 32 (right wires) (below 32 right_all right_all_law wires h) n hn)

  lone_at : (t : ℕ) → t < 5 → eqb (bit_and n (2 ^ t)) 0 ≡ not (on t n)
  lone_at t h = same_is (eqb (bit_and n (2 ^ t)) 0) (not (on t n)) (below 32 (lone t) (below 5 lone_all refl t h) n hn)

  single_at : (m : ℕ) → m < 32 → on n (2 ^ m) ≡ eqb n m
  single_at m h = same_is (on n (2 ^ m)) (eqb n m) (below 32 (single m) (below 32 single_all refl m h) n hn)

  every_at : on n every ≡ true
  every_at = below 32 full refl n hn

five_at_law : (f : ℕ → ℕ) (u : ℕ) → u < 5 → get_or (five f) u 0 ≡ f u
five_at_law f zero h = refl
five_at_law f (suc zero) h = refl
five_at_law f (suc (suc zero)) h = refl
five_at_law f (suc (suc (suc zero))) h = refl
five_at_law f (suc (suc (suc (suc zero)))) h = refl
five_at_law f (suc (suc (suc (suc (suc u))))) h = absurd (omega arith)

-- one of five, picked out one after the other
pub chosen : (f : ℕ → ℕ) (u : ℕ) → u < 5 → pick (eqb u 0) (f 0) (pick (eqb u 1) (f 1) (pick (eqb u 2) (f 2) (pick (eqb u 3) (f 3) (f 4)))) ≡ f u
chosen f zero h = refl
chosen f (suc zero) h = refl
chosen f (suc (suc zero)) h = refl
chosen f (suc (suc (suc zero))) h = refl
chosen f (suc (suc (suc (suc zero)))) h = refl
chosen f (suc (suc (suc (suc (suc u))))) h = absurd (omega arith)

same_byte : (a b : ℕ) → both (eqb (target_of b) (target_of a)) (eqb (mask_of b) (mask_of a)) ≡ eqb a b
same_byte a b = by_byte (ℕ_discrete a b)
  where
    by_byte : Dec (a ≡ b) → both (eqb (target_of b) (target_of a)) (eqb (mask_of b) (mask_of a)) ≡ eqb a b
    by_byte (yes e) = rw (eq-eqb a b e, eq-eqb (target_of b) (target_of a) (omega arith), eq-eqb (mask_of b) (mask_of a) (omega arith))
    by_byte (no d) =
        rw (ne_eqb a b d)
        (not_so (both (eqb (target_of b) (target_of a)) (eqb (mask_of b) (mask_of a)))
        (λ h.
        d (omega (
          arith,
          eqb-true (target_of b) (target_of a) (both_left (eqb (target_of b) (target_of a)) (eqb (mask_of b) (mask_of a)) h),
          eqb-true (mask_of b) (mask_of a) (both_right (eqb (target_of b) (target_of a)) (eqb (mask_of b) (mask_of a)) h),
        ))))

wires_lt : (a : ℕ) → target_of a < 5 → wires_of a < 32
wires_lt a h = or_lt 5 (mask_of a) (2 ^ target_of a) (omega arith) (pow-lt h)

-- one bit of a word goes as the test of one gate does
module _ (a b old : ℕ) (ha : target_of a < 5) where
  hn : mask_of b < 32
  hn = omega arith

  sleep_bit : on (mask_of b) (sleep_word (wires_of a) (clear_of (wires_of a)) (target_of a) (target_of b) old) ≡ sleep_step b a (on (mask_of b) old)
  unfolding sleep_word sleep_step disjoint
  sleep_bit = by_wire (on (target_of b) (wires_of a))
    where
      by_order : (o : Bool) → on (mask_of b) (pick o every old) ≡ either o (on (mask_of b) old)
      by_order true = every_at (mask_of b) hn
      by_order false = refl

      by_wire : (s : Bool) → on (mask_of b) (pick s 0 (bit_and (clear_of (wires_of a)) (pick (ltb (target_of b) (target_of a)) every old)))
          ≡ both (both (not s) (eqb (bit_and (mask_of b) (wires_of a)) 0)) (either (ltb (target_of b) (target_of a)) (on (mask_of b) old))
      by_wire true = on_none (mask_of b)
      by_wire false =
          on_and (mask_of b) (clear_of (wires_of a)) (pick (ltb (target_of b) (target_of a)) every old)
          ∙ ap₂ both (clear_at (mask_of b) hn (wires_of a) (wires_lt a ha)) (by_order (ltb (target_of b) (target_of a)))

  cancel_bit : on (mask_of b) (cancel_word (mask_of a) (clear_of (2 ^ target_of a)) (target_of a) (target_of b) old) ≡ cancel_step b a (on (mask_of b) old)
  unfolding cancel_word cancel_step commuting
  cancel_bit =
      on_or (mask_of b) (pick (controlled a (target_of b)) 0 (bit_and (clear_of (2 ^ target_of a)) old)) (pick (eqb (target_of b) (target_of a)) (2 ^ mask_of a) 0)
      ∙ ap₂ either (by_control (controlled a (target_of b))) (by_target (eqb (target_of b) (target_of a)) ∙ same_byte a b)
    where
      by_control : (s : Bool) → on (mask_of b) (pick s 0 (bit_and (clear_of (2 ^ target_of a)) old)) ≡ both (both (not s) (not (controlled b (target_of a)))) (on (mask_of b) old)
      by_control true = on_none (mask_of b)
      by_control false =
          on_and (mask_of b) (clear_of (2 ^ target_of a)) old
          ∙ ap (λ (t : Bool). both t (on (mask_of b) old)) (clear_at (mask_of b) hn (2 ^ target_of a) (pow-lt ha) ∙ lone_at (mask_of b) hn (target_of a) ha)

      by_target : (s : Bool) → on (mask_of b) (pick s (2 ^ mask_of a) 0) ≡ both s (eqb (mask_of b) (mask_of a))
      by_target true = single_at (mask_of b) hn (mask_of a) (omega arith)
      by_target false = on_none (mask_of b)

-- along a list of gates of the five wires
module _ (b : ℕ) (hb : target_of b < 5) where
  sleep_along : (l : List ℕ) (ms : Masks) → ((a : ℕ) → Memᴰ a l → target_of a < 5)
      → on (mask_of b) (get_or (along stepped l ms).sleep (target_of b) 0) ≡ along (sleep_step b) l (on (mask_of b) (get_or ms.sleep (target_of b) 0))
  unfolding along stepped
  sleep_along [] ms h = refl
  sleep_along (a ∷ l) ms h =
      sleep_along l (stepped a ms) (λ x m. h x (Memᴰ.tail m))
      ∙ ap (along (sleep_step b) l)
      (ap (on (mask_of b)) (five_at_law (λ (u : ℕ). sleep_word (wires_of a) (clear_of (wires_of a)) (target_of a) u (get_or ms.sleep u 0)) (target_of b) hb)
      ∙ sleep_bit a b (get_or ms.sleep (target_of b) 0) (h a (Memᴰ.head refl)))

  cancel_along : (l : List ℕ) (ms : Masks) → ((a : ℕ) → Memᴰ a l → target_of a < 5)
      → on (mask_of b) (get_or (along stepped l ms).cancel (target_of b) 0) ≡ along (cancel_step b) l (on (mask_of b) (get_or ms.cancel (target_of b) 0))
  unfolding along stepped
  cancel_along [] ms h = refl
  cancel_along (a ∷ l) ms h =
      cancel_along l (stepped a ms) (λ x m. h x (Memᴰ.tail m))
      ∙ ap (along (cancel_step b) l)
      (ap (on (mask_of b)) (five_at_law (λ (u : ℕ). cancel_word (mask_of a) (clear_of (2 ^ target_of a)) (target_of a) u (get_or ms.cancel u 0)) (target_of b) hb)
      ∙ cancel_bit a b (get_or ms.cancel (target_of b) 0) (h a (Memᴰ.head refl)))

  unmarked : on (mask_of b) (get_or (five (λ u. 0)) (target_of b) 0) ≡ false
  unmarked = ap (on (mask_of b)) (five_at_law (λ u. 0) (target_of b) hb) ∙ on_none (mask_of b)

  -- a gate is marked after a list exactly where the list says that it need not come next
  pub told : (l : List ℕ) → ((a : ℕ) → Memᴰ a l → target_of a < 5) → marked (masks_after l) b ≡ either (asleep b l) (cancels b l)
  unfolding marked
  told l h =
      on_or (mask_of b) (get_or (masks_after l).sleep (target_of b) 0) (get_or (masks_after l).cancel (target_of b) 0)
      ∙ ap₂ either
      (sleep_along l no_masks h ∙ ap (along (sleep_step b) l) unmarked)
      (cancel_along l no_masks h ∙ ap (along (cancel_step b) l) unmarked)
