-- The next working slot, looked for one slot after the other.
use mathlib.Core.Path.{◌≡◌, refl, sym, ap, ap₂, ◌∙◌}
use mathlib.Core.Bool.{Bool, true, false}
use mathlib.Core.List.{List}
use mathlib.Core.Option.{none, some, none-ne-some}
use Prim.Native.Nat.{ℕ, zero, suc, ◌+◌, ◌-◌, ◌<◌, ◌≤◌, ◌%◌}
use native.Mathlib.Omega.{arith}
use lib.ListN.{get_or}
use Rattle.logic.specs.Rules.{pick}
use Rattle.scheduler.proofs.states.Views.{slot_in}
use Rattle.scheduler.specs.slot.Slots.{Slot, empty, is_working, tried}
use Rattle.scheduler.specs.states.States.{State, slot_at, with_slot, following, next_working, served_by, after_serving, after_turn}

module _ (slots : List Slot) (i : ℕ) where
  pub next_here : (n : ℕ) → 0 < n → is_working (get_or slots (following i) empty) ≡ true → some (following i) ≡ next_working slots i n
  unfolding next_working
  next_here zero h e = absurd (omega arith)
  next_here (suc n) h e = rw e

  pub next_on : (n : ℕ) → 0 < n → is_working (get_or slots (following i) empty) ≡ false → next_working slots (following i) (n - 1) ≡ next_working slots i n
  unfolding next_working
  next_on zero h e = absurd (omega arith)
  next_on (suc n) h e = let k : suc n - 1 ≡ n = omega arith in rw (e, k)

  pub next_none : (n : ℕ) → n ≤ 0 → none ≡ next_working slots i n
  unfolding next_working
  next_none zero h = refl
  next_none (suc n) h = absurd (omega arith)

-- the slot that comes `step` slots after the one served last
module _ (slots : List Slot) (last step : ℕ) (more : step < 8) where
  pub found_here : is_working (get_or slots ((last % 8 + step + 1) % 8) empty) ≡ true
      → some ((last % 8 + step + 1) % 8) ≡ next_working slots ((last % 8 + step) % 8) (8 - step)
  found_here h =
      let k : ((last % 8 + step) % 8 + 1) % 8 ≡ (last % 8 + step + 1) % 8 = omega arith in
      rw (← k) (next_here slots ((last % 8 + step) % 8) (8 - step) (omega arith) (rw k h))

  pub found_later : is_working (get_or slots ((last % 8 + step + 1) % 8) empty) ≡ false
      → next_working slots ((last % 8 + (step + 1)) % 8) (8 - (step + 1)) ≡ next_working slots ((last % 8 + step) % 8) (8 - step)
  found_later h =
      let k : ((last % 8 + step) % 8 + 1) % 8 ≡ (last % 8 + step + 1) % 8 = omega arith in
      let a : (last % 8 + (step + 1)) % 8 ≡ ((last % 8 + step) % 8 + 1) % 8 = omega arith in
      let n : 8 - (step + 1) ≡ 8 - step - 1 = omega arith in
      rw (a, n) (next_on slots ((last % 8 + step) % 8) (8 - step) (omega arith) (rw k h))

-- a slot that is found is one of the eight, and is working
pub next_is : (slots : List Slot) (i n j : ℕ) → next_working slots i n ≡ some j → (j < 8) × (is_working (get_or slots j empty) ≡ true)
unfolding next_working
next_is slots i zero j e = absurd (none-ne-some j e)
next_is slots i (suc n) j e = by_test (next_is slots (following i) n j) (is_working (get_or slots (following i) empty)) refl e
  where
    by_test : (next_working slots (following i) n ≡ some j → (j < 8) × (is_working (get_or slots j empty) ≡ true))
        → (t : Bool) → is_working (get_or slots (following i) empty) ≡ t
        → pick t (some (following i)) (next_working slots (following i) n) ≡ some j → (j < 8) × (is_working (get_or slots j empty) ≡ true)
    by_test later true h e = let q : following i ≡ j = cc in (rw (← q) (omega arith), rw (← q) h)
    by_test later false h e = later e

pub served_is : (s : State) (j : ℕ) → served_by s ≡ some j → (j < 8) × (is_working (slot_at s j) ≡ true)
unfolding served_by
served_is s j e = next_is s.slots s.last 8 j e

pub turn_idle : (s : State) → none ≡ served_by s → s ≡ after_turn s
unfolding after_turn
turn_idle s e = ap (after_serving s) e

pub turn_served : (s : State) (j : ℕ) (x y : Slot) (t : State) → some j ≡ served_by s → x ≡ slot_at s j → y ≡ tried x → t ≡ with_slot s j y (j % 8)
    → t ≡ after_turn s
unfolding after_turn
turn_served s j x y t e here new made =
    let k : j % 8 ≡ j = let h = (served_is s j (sym e)).0 in omega arith in
    made ∙ ap₂ (λ (y : Slot) (n : ℕ). with_slot s j y n) (new ∙ ap tried here) k ∙ ap (after_serving s) e

pub ruleset looking = (slot_in, found_here, found_later, next_none)
