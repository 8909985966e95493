-- How many slots come before a working slot in the order of serving: a turn serves that slot, or one of those before it.
use mathlib.Core.Path.{◌≡◌, refl, sym, ap, ◌∙◌}
use mathlib.Core.Bool.{Bool, true, false, true≢false}
use mathlib.Core.Logic.{◌⊎◌, inl, inr, ⊎_elim}
use mathlib.Core.List.{List}
use mathlib.Core.Option.{some}
use Prim.Native.Nat.{ℕ, zero, suc, ◌+◌, ◌-◌, ◌<◌, ◌%◌}
use native.Mathlib.Decide.{ℕ_discrete}
use native.Mathlib.Omega.{arith}
use lib.ListN.{get_or}
use Rattle.scheduler.specs.slot.Slots.{Slot, empty, is_working}
use Rattle.scheduler.specs.states.States.{State, slot_at, following, next_working, served_by}
use Rattle.scheduler.proofs.states.Serving.{next_here, next_on}

-- how many slots are looked at before slot i
unfoldable pub ahead : ℕ → ℕ → ℕ
ahead last i = (i + 7 - last) % 8

pub ahead_few : (last i : ℕ) → ahead last i < 8
unfolding ahead
ahead_few last i = omega arith

pub ahead_own : (i : ℕ) → ahead i i ≡ 7
unfolding ahead
ahead_own i = omega arith

closer : (last i : ℕ) → last < 8 → i < 8 → (following last ≡ i → ⊥) → ahead (following last) i < ahead last i
unfolding ahead
closer last i h k n = omega arith

abbrev Found : List Slot → ℕ → ℕ → ℕ → Type 0
Found slots last i n = (j : ℕ) × ((next_working slots last n ≡ some j) × ((j ≡ i) ⊎ (ahead j i < ahead last i)))

next_found : (slots : List Slot) (last i n : ℕ) → last < 8 → i < 8 → is_working (get_or slots i empty) ≡ true → ahead last i < n → Found slots last i n
next_found slots last i zero h k w few = absurd (omega arith)
next_found slots last i (suc n) h k w few = by_test (next_found slots (following last) i n (omega arith) k w) (is_working (get_or slots (following last) empty)) refl
  where
    by_test : (ahead (following last) i < n → Found slots (following last) i n) → (t : Bool) → is_working (get_or slots (following last) empty) ≡ t
        → Found slots last i (suc n)
    by_test later true e = (following last, (sym (next_here slots last (suc n) (omega arith) e), by_place (ℕ_discrete (following last) i)))
      where
        by_place : Dec (following last ≡ i) → (following last ≡ i) ⊎ (ahead (following last) i < ahead last i)
        by_place (yes q) = inl q
        by_place (no q) = inr (closer last i h k q)
    by_test later false e =
        let c = closer last i h k (λ q. true≢false (sym w ∙ ap (λ (j : ℕ). is_working (get_or slots j empty)) (sym q) ∙ e)) in
        let r = later (omega arith) in
        let m : suc n - 1 ≡ n = omega arith in (
          r.0,
          (
            sym (next_on slots last (suc n) (omega arith) e) ∙ rw m r.1.0,
            ⊎_elim (λ (q : r.0 ≡ i). inl q) (λ (q : ahead r.0 i < ahead (following last) i). inr (omega arith)) r.1.1,
          ),
        )

pub served_found : (s : State) (i : ℕ) → s.last < 8 → i < 8 → is_working (slot_at s i) ≡ true
    → (j : ℕ) × ((served_by s ≡ some j) × ((j ≡ i) ⊎ (ahead j i < ahead s.last i)))
unfolding served_by
served_found s i h k w = next_found s.slots s.last i 8 h k w (ahead_few s.last i)
