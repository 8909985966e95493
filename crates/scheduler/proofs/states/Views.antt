-- What the code's slots stand for, slot by slot.
use mathlib.Core.Path.{◌≡◌, refl, sym, ap, ◌∙◌}
use mathlib.Core.List.{List, [], ◌∷◌, map}
use Prim.Native.Nat.{ℕ, zero, suc, ◌<◌, ◌≤◌, ◌%◌}
use native.Mathlib.Omega.{arith}
use lib.ListN.{length, get_or, set, get_or-map, get_or-eq_default}
use lib.Seq.{set_out}
use Rattle.scheduler.specs.declared.slot.SlotState.{SlotState}
use Rattle.scheduler.specs.slot.Slots.{Slot, empty}
use Rattle.scheduler.specs.slot.View.{stage_said, view_slot}
use Rattle.scheduler.proofs.slot.Slots.{none_there}
use Rattle.scheduler.specs.declared.states.Slots.{Slots}
use Rattle.scheduler.specs.states.States.{slot_at, with_slot}
use Rattle.scheduler.specs.states.Calls.{view_state}

-- an array's length is known of the list of what its elements stand for in memory
pub mapped_length : (X Y : Type 0) (f : X → Y) (l : List X) (n : ℕ) → length (map f l) ≡ n → length l ≡ n
mapped_length X Y f l n h = sym (same l) ∙ h
  where
    same : (l : List X) → length (map f l) ≡ length l
    same [] = refl
    same (x ∷ l) = ap suc (same l)

module _ (l : List SlotState) (i : ℕ) where
  slot_seen : (d : SlotState) → d.status ≡ 0 → view_slot (get_or l i d) ≡ get_or (map view_slot l) i empty
  slot_seen d h = sym (get_or-map view_slot l i d) ∙ ap (get_or (map view_slot l) i) (none_there d (ap stage_said h))

set_seen : (l : List SlotState) (i : ℕ) (e : SlotState) → map view_slot (set l i e) ≡ set (map view_slot l) i (view_slot e)
set_seen [] i e = refl
set_seen (x ∷ l) zero e = refl
set_seen (x ∷ l) (suc i) e = ap (λ (m : List Slot). view_slot x ∷ m) (set_seen l i e)

length_seen : (l : List SlotState) → length (map view_slot l) ≡ length l
length_seen [] = refl
length_seen (x ∷ l) = ap suc (length_seen l)

module _ (s : Slots) (i : ℕ) where
  pub slot_is : (d : SlotState) → d.status ≡ 0 → view_slot (get_or s.states i d) ≡ slot_at (view_state s) i
  unfolding view_state
  slot_is d h = slot_seen s.states i d h

  pub slot_in : (d : SlotState) → i < length s.states → view_slot (get_or s.states i d) ≡ slot_at (view_state s) i
  unfolding view_state
  slot_in d h = at s.states i h
    where
      at : (l : List SlotState) (i : ℕ) → i < length l → view_slot (get_or l i d) ≡ get_or (map view_slot l) i empty
      at [] i h = absurd (omega arith)
      at (x ∷ l) zero h = refl
      at (x ∷ l) (suc i) h = at l i (omega arith)

  pub changed : (e : SlotState) (last : ℕ) → view_state (record { states = set s.states i e; last = last }) ≡ with_slot (view_state s) i (view_slot e) (last % 8)
  unfolding view_state
  changed e last = ap (λ (l : List Slot). record { slots = l; last = last % 8 }) (set_seen s.states i e)

  -- past the last slot
  module _ (h : length s.states ≤ i) where
    pub none_past : (x : Slot) → x ≡ empty → x ≡ slot_at (view_state s) i
    unfolding view_state
    none_past x e =
        let k : length (map view_slot s.states) ≤ i = omega (arith, length_seen s.states) in
        e ∙ sym (get_or-eq_default (map view_slot s.states) empty k)

    pub unchanged : (e : SlotState) (last : ℕ) → view_state (record { states = s.states; last = last }) ≡ with_slot (view_state s) i (view_slot e) (last % 8)
    unfolding view_state
    unchanged e last =
        let k : length (map view_slot s.states) ≤ i = omega (arith, length_seen s.states) in
        ap (λ (l : List Slot). record { slots = l; last = last % 8 }) (sym (set_out (map view_slot s.states) i (view_slot e) k))
