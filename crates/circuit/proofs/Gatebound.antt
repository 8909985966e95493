-- A lower bound on depth: if every lawful gate lasts at least 1, the number of gates is at most the wires times the depth. Each gate
-- raises the sum of the ready times by at least 1, and only the W wires of the list are ever held. So the depth is at least the number
-- of gates divided by the number of wires, rounded up.
use mathlib.Core.Path.{◌≡◌, refl, sym, ◌∙◌}
use mathlib.Core.Bool.{Bool, true, false, not}
use mathlib.Core.List.{List, [], ◌∷◌}
use Prim.Native.Nat.{ℕ, zero, suc, ◌+◌, ◌-◌, ◌*◌, ◌/◌, ◌≤◌, ◌<◌}
use native.Mathlib.Nat.{suc-mul, mul_comm, div-lt_iff_lt-mul, not-suc-le-zero, le_of_suc-le-suc}
use native.Mathlib.Omega.{arith}
use borrow.Author.Tests.{eq-eqb, le-leb, not-true}
use lib.Dec.{leb}
use lib.Count.{ones, ones_in, count_trailing_zeros, count_leading_zeros}
use lib.ListN.{length, get_or}
use Rattle.logic.specs.Rules.{implies, all_below}
use Rattle.logic.specs.Lists.{all_of, total, along}
use Rattle.logic.proofs.Chain.{both_left, both_right, implied}
use Rattle.logic.proofs.Below.{below}
use Rattle.gate.specs.Gates.{target_of, lawful, gate_of}
use Rattle.gate.proofs.Widen.{parts, any_controls, lawful_lt}
use Rattle.circuit.specs.Measure.{hold, hold_byte, idle, ready_times, greatest, depth}
use Rattle.circuit.proofs.Times.{Sooner, Until, holds, hold_at, hold_past, hold_rises, length_hold}
use Rattle.circuit.proofs.Times.{until_greatest, wire_wise, start_after, idle_until}

-- n divided by w, rounded up
abbrev pub rounded_up : ℕ → ℕ → ℕ
rounded_up n w = (n + (w - 1)) / w

sum : List ℕ → ℕ
sum ts = total (λ t. t) ts

sum_sooner : (ts us : List ℕ) → length ts ≡ length us → Sooner ts us → sum ts ≤ sum us
unfolding sum total
sum_sooner [] us l s = omega arith
sum_sooner (t ∷ ts) [] l s = absurd (omega arith)
sum_sooner (t ∷ ts) (u ∷ us) l s = omega (arith, s 0, sum_sooner ts us (omega arith) (λ w. s (suc w)))

sum_later : (ts us : List ℕ) (d w : ℕ) → length ts ≡ length us → Sooner ts us → w < length ts → get_or ts w 0 + d ≤ get_or us w 0
    → sum ts + d ≤ sum us
unfolding sum total
sum_later [] us d w l s h g = absurd (not-suc-le-zero h)
sum_later (t ∷ ts) [] d w l s h g = absurd (omega arith)
sum_later (t ∷ ts) (u ∷ us) d zero l s h g = omega (arith, g, sum_sooner ts us (omega arith) (λ w. s (suc w)))
sum_later (t ∷ ts) (u ∷ us) d (suc w) l s h g =
    omega (arith, s 0, sum_later ts us d w (omega arith) (λ w. s (suc w)) (le_of_suc-le-suc h) g)

-- W numbers of at most m, and zeros past them
sum_within : (ts : List ℕ) (w m : ℕ) → Until m ts → ((i : ℕ) → w ≤ i → get_or ts i 0 ≡ 0) → sum ts ≤ w * m
unfolding sum total
sum_within [] w m u z = omega arith
sum_within (t ∷ ts) zero m u z = omega (arith, z 0 (omega arith), sum_within ts zero m (λ i. u (suc i)) (λ i h. z (suc i) (omega arith)))
sum_within (t ∷ ts) (suc w) m u z =
    rw (suc-mul w m) (omega (arith, u 0, sum_within ts w m (λ i. u (suc i)) (λ i h. z (suc i) (omega arith))))

-- a gate that is lawful for w wires holds none from w on: computed for every byte, every w and every wire
abbrev free : ℕ → ℕ → ℕ → Bool
free w b i = implies (leb w i) (not (holds (gate_of b) i))

abbrev frees : ℕ → ℕ → Bool
frees w b = implies (lawful 5 w b) (all_below 5 (free w b))

abbrev frees_all : ℕ → Bool
frees_all w = all_below 160 (frees w)

frees_all_law : all_below 6 frees_all ≡ true
unfolding lawful gate_of ones ones_in count_trailing_zeros count_leading_zeros
frees_all_law = refl

module _ (k w b : ℕ) (hw : w ≤ 5) (h : lawful k w b ≡ true) where
  held_below : (i : ℕ) → w ≤ i → i < 5 → holds (gate_of b) i ≡ false
  held_below i hi h5 =
      not-true (holds (gate_of b) i)
      (implied (leb w i) (not (holds (gate_of b) i))
      (below 5 (free w b)
      (implied (lawful 5 w b) (all_below 5 (free w b))
      (below 160 (frees w) (below 6 frees_all frees_all_law w (omega arith)) b (lawful_lt k w b hw h)) (any_controls k w b hw h))
      i h5)
      (le-leb w i hi))

  module _ (d : ℕ) (ts : List ℕ) (l : length ts ≡ 5) where
    -- the wires from w on stay at 0
    quiet : ((i : ℕ) → w ≤ i → get_or ts i 0 ≡ 0) → (i : ℕ) → w ≤ i → get_or (hold (gate_of b) d ts) i 0 ≡ 0
    quiet z =
        wire_wise ts
        (λ i s hi. rw (hold_at (gate_of b) d ts i s, held_below i hi (omega arith)) (z i hi))
        (λ i s hi. hold_past (gate_of b) d ts i s)

    -- the target's ready time grows by at least the duration
    moves : sum ts + d ≤ sum (hold (gate_of b) d ts)
    unfolding gate_of
    moves =
        let t : target_of b < length ts = rw l (omega (arith, (parts k w b h).target)) in
        let s : holds (gate_of b) (target_of b) ≡ true = rw (eq-eqb (target_of b) (target_of b) refl) in
        sum_later ts (hold (gate_of b) d ts) d (target_of b) (sym (length_hold (gate_of b) d ts)) (hold_rises (gate_of b) d ts) t
        (rw (hold_at (gate_of b) d ts (target_of b) t, s) (omega (arith, start_after (gate_of b) ts (target_of b) s)))

module _ (duration : ℕ → ℕ) (k w : ℕ) (hw : w ≤ 5) where
  quiet_run : (gs ts : List ℕ) → all_of (lawful k w) gs ≡ true → length ts ≡ 5 → ((i : ℕ) → w ≤ i → get_or ts i 0 ≡ 0)
      → (i : ℕ) → w ≤ i → get_or (along (hold_byte duration) gs ts) i 0 ≡ 0
  unfolding all_of along
  quiet_run [] ts h l z = z
  quiet_run (b ∷ gs) ts h l z =
      let hb = both_left (lawful k w b) (all_of (lawful k w) gs) h in
      quiet_run gs (hold_byte duration b ts) (both_right (lawful k w b) (all_of (lawful k w) gs) h)
      (length_hold (gate_of b) (duration b) ts ∙ l)
      (quiet k w b hw hb (duration b) ts l z)

  -- wires from w on are ready from the start: no gate of w wires holds them
  pub quiet_ready : (gs : List ℕ) → all_of (lawful k w) gs ≡ true → (i : ℕ) → w ≤ i → get_or (ready_times duration gs) i 0 ≡ 0
  quiet_ready gs h = quiet_run gs idle h refl (λ i hi. omega (arith, idle_until i))

module _ (duration : ℕ → ℕ) (k w : ℕ) (slow : (b : ℕ) → lawful k w b ≡ true → 1 ≤ duration b) (hw : w ≤ 5) where
  sum_grows : (gs ts : List ℕ) → all_of (lawful k w) gs ≡ true → length ts ≡ 5 → sum ts + length gs ≤ sum (along (hold_byte duration) gs ts)
  unfolding all_of along
  sum_grows [] ts h l = omega arith
  sum_grows (b ∷ gs) ts h l =
      let hb = both_left (lawful k w b) (all_of (lawful k w) gs) h in
      omega (
        arith,
        slow b hb,
        moves k w b hw hb (duration b) ts l,
        sum_grows gs (hold_byte duration b ts) (both_right (lawful k w b) (all_of (lawful k w) gs) h)
            (length_hold (gate_of b) (duration b) ts ∙ l),
      )

  pub gates_by_depth : (gs : List ℕ) → all_of (lawful k w) gs ≡ true → length gs ≤ w * depth duration gs
  gates_by_depth gs h =
      let r = ready_times duration gs in
      omega (
        arith,
        sum_grows gs idle h refl,
        sum_within r w (greatest r) (until_greatest r) (quiet_ready duration k w hw gs h),
      )

  pub depth_least : (gs : List ℕ) → 0 < w → all_of (lawful k w) gs ≡ true → rounded_up (length gs) w ≤ depth duration gs
  depth_least gs pos h =
      let d = depth duration gs in
      le_of_suc-le-suc ((div-lt_iff_lt-mul pos).1 (omega (arith, gates_by_depth gs h, mul_comm w d, suc-mul d w)))
