-- The depth of a list that is cut in two: the greatest sum, over the wires, of the ready time after the front and the ready time after
-- the rest taken backwards. So a list taken backwards is as deep as the list.
use mathlib.Core.Path.{◌≡◌, refl, sym, ◌∙◌}
use mathlib.Core.Bool.{Bool, true, false}
use mathlib.Core.List.{List, [], ◌∷◌, ◌++◌, reverse}
use Prim.Native.Nat.{ℕ, zero, suc, ◌+◌, ◌≤◌, ◌<◌, max}
use native.Mathlib.Nat.{le_antisymm}
use native.Mathlib.Omega.{arith}
use borrow.Author.Tests.{eq-eqb}
use lib.Dec.{eqb}
use lib.ListN.{length, get_or, get_or-eq_default}
use Rattle.logic.specs.Rules.{either, pick}
use Rattle.logic.specs.Lists.{along, back}
use Rattle.logic.proofs.Chain.{either_first, either_second}
use Rattle.logic.proofs.Fold.{along_append}
use Rattle.gate.specs.declared.Gate.{Gate}
use Rattle.gate.specs.declared.Kind.{Kind}
use Rattle.gate.specs.declared.Kind.TheVariants.{Not, Cnot, Toffoli, Cccnot}
use Rattle.gate.specs.Gates.{gate_of}
use Rattle.circuit.specs.Measure.{controls_ready, start, hold, hold_byte, idle, ready_times, greatest, depth}
use Rattle.circuit.proofs.Times.{holds, holds_control, hold_at, hold_past, length_hold, length_ready, start_after, wire_wise, greatest_until, until_greatest, idle_until}
use Rattle.circuit.specs.reversal.Halves.{added_up}
use Rattle.circuit.proofs.reversal.Lists.{along_reverse}

-- on every wire, the two ready times add up to at most m
abbrev pub Meets : ℕ → List ℕ → List ℕ → Type 0
Meets m ts us = (w : ℕ) → get_or ts w 0 + get_or us w 0 ≤ m

itself : (w : ℕ) → eqb w w ≡ true
itself w = eq-eqb w w refl

-- a bound for every wire that a gate holds is a bound for its start
start_within : (g : Gate) (ts : List ℕ) (x m : ℕ) → ((w : ℕ) → holds g w ≡ true → get_or ts w 0 + x ≤ m) → start g ts + x ≤ m
start_within g ts x m h = by_kind g.kind (λ w e. h w (either_second (eqb w g.target) (holds_control g.kind w) e))
  where
    own : get_or ts g.target 0 + x ≤ m
    own = h g.target (either_first (eqb g.target g.target) (holds_control g.kind g.target) (itself g.target))

    by_kind : (k : Kind) → ((w : ℕ) → holds_control k w ≡ true → get_or ts w 0 + x ≤ m) → max (get_or ts g.target 0) (controls_ready k ts) + x ≤ m
    by_kind Not c = omega (arith, own)
    by_kind (Cnot a) c = omega (arith, own, c a (itself a))
    by_kind (Toffoli a b) c =
        omega (arith, own, c a (either_second (eqb a b) (eqb a a) (itself a)), c b (either_first (eqb b b) (eqb b a) (itself b)))
    by_kind (Cccnot a b d) c =
        omega (
          arith,
          own,
          c a (either_second (eqb a d) (either (eqb a b) (eqb a a)) (either_second (eqb a b) (eqb a a) (itself a))),
          c b (either_second (eqb b d) (either (eqb b b) (eqb b a)) (either_first (eqb b b) (eqb b a) (itself b))),
          c d (either_first (eqb d d) (either (eqb d b) (eqb d a)) (itself d)),
        )

-- the bound stays when a gate moves from the end of the front to the start of the rest
module _ (g : Gate) (d m : ℕ) (ts us : List ℕ) (l : length ts ≡ length us) where
  pub pass : Meets m (hold g d ts) us → Meets m ts (hold g d us)
  pass h =
      wire_wise us
      (λ w k. rw (hold_at g d us w k) (inner w k (holds g w) refl))
      (λ w k. rw (hold_past g d us w k, get_or-eq_default ts 0 {n = w} (omega arith)) (omega arith))
    where
      -- the hypothesis at one wire
      at_wire : (w : ℕ) → w < length us → pick (holds g w) (start g ts + d) (get_or ts w 0) + get_or us w 0 ≤ m
      at_wire w k = let i : w < length ts = omega arith in rw (hold_at g d ts w i) at (h w)

      held : (w : ℕ) → w < length us → holds g w ≡ true → start g ts + d + get_or us w 0 ≤ m
      held w k e = rw e at (at_wire w k)

      each : (w : ℕ) → w < length us → holds g w ≡ true → (v : ℕ) → holds g v ≡ true → get_or us v 0 + (get_or ts w 0 + d) ≤ m
      each w k e =
          wire_wise us
          (λ v j f. omega (arith, held v j f, start_after g ts w e))
          (λ v j f. rw (get_or-eq_default us 0 {n = v} j) (omega (arith, held w k e, start_after g ts w e)))

      inner : (w : ℕ) → w < length us → (t : Bool) → holds g w ≡ t → get_or ts w 0 + pick t (start g us + d) (get_or us w 0) ≤ m
      inner w k true e = omega (arith, start_within g us (get_or ts w 0 + d) m (each w k e))
      inner w k false e = rw e at (at_wire w k)

turned : (m : ℕ) (ts us : List ℕ) → Meets m ts us → Meets m us ts
turned m ts us h w = omega (arith, h w)

module _ (duration : ℕ → ℕ) (m : ℕ) where
  length_back : (gs us : List ℕ) → length (back (hold_byte duration) gs us) ≡ length us
  unfolding back
  length_back [] us = refl
  length_back (b ∷ gs) us = length_hold (gate_of b) (duration b) (back (hold_byte duration) gs us) ∙ length_back gs us

  -- it stays when all gates of a list move there, and when they move back
  pub pass_all : (gs ts us : List ℕ) → length ts ≡ length us → Meets m (along (hold_byte duration) gs ts) us
      → Meets m ts (back (hold_byte duration) gs us)
  unfolding along back
  pass_all [] ts us l h = h
  pass_all (b ∷ gs) ts us l h =
      pass (gate_of b) (duration b) m ts (back (hold_byte duration) gs us) (l ∙ sym (length_back gs us))
      (pass_all gs (hold_byte duration b ts) us (length_hold (gate_of b) (duration b) ts ∙ l) h)

  pub pass_back : (gs ts us : List ℕ) → length ts ≡ length us → Meets m ts (back (hold_byte duration) gs us)
      → Meets m (along (hold_byte duration) gs ts) us
  unfolding along back
  pass_back [] ts us l h = h
  pass_back (b ∷ gs) ts us l h =
      pass_back gs (hold_byte duration b ts) us (length_hold (gate_of b) (duration b) ts ∙ l)
      (turned m (back (hold_byte duration) gs us) (hold_byte duration b ts)
      (pass (gate_of b) (duration b) m (back (hold_byte duration) gs us) ts (length_back gs us ∙ sym l)
      (turned m ts (back (hold_byte duration) (b ∷ gs) us) h)))

-- the greatest sum is at most m exactly if every sum is
added_at : (ts us : List ℕ) (w : ℕ) → get_or (added_up ts us) w 0 ≡ get_or ts w 0 + get_or us w 0
unfolding added_up
added_at [] us w = omega arith
added_at (t ∷ ts) [] zero = omega arith
added_at (t ∷ ts) [] (suc w) = omega arith
added_at (t ∷ ts) (u ∷ us) zero = refl
added_at (t ∷ ts) (u ∷ us) (suc w) = added_at ts us w

module _ (m : ℕ) (ts us : List ℕ) where
  meets_most : Meets m ts us → greatest (added_up ts us) ≤ m
  meets_most h = greatest_until (added_up ts us) m (λ w. omega (arith, added_at ts us w, h w))

  most_meets : greatest (added_up ts us) ≤ m → Meets m ts us
  most_meets h w = omega (arith, added_at ts us w, until_greatest (added_up ts us) w)

idle_at : (w : ℕ) → get_or idle w 0 ≡ 0
idle_at w = omega (arith, idle_until w)

-- with the ready times F of the front and B of the rest backwards, the depth of the whole is the greatest F_w + B_w
pub depth_halves : (duration : ℕ → ℕ) (xs ys : List ℕ)
    → depth duration (xs ++ ys) ≡ greatest (added_up (ready_times duration xs) (ready_times duration (reverse ys)))
depth_halves duration xs ys = rw (along_append (hold_byte duration) xs ys idle, along_reverse (hold_byte duration) ys idle) (le_antisymm most least)
  where
    F : List ℕ
    F = along (hold_byte duration) xs idle

    B : List ℕ
    B = back (hold_byte duration) ys idle

    W : List ℕ
    W = along (hold_byte duration) ys F

    sized : length F ≡ length idle
    sized = length_ready duration xs idle

    most : greatest W ≤ greatest (added_up F B)
    most =
        greatest_until W (greatest (added_up F B))
        (λ w. omega (arith, idle_at w, pass_back duration (greatest (added_up F B)) ys F idle sized (most_meets (greatest (added_up F B)) F B (omega arith)) w))

    least : greatest (added_up F B) ≤ greatest W
    least =
        meets_most (greatest W) F B
        (pass_all duration (greatest W) ys F idle sized (λ w. omega (arith, idle_at w, until_greatest W w)))

-- an empty front: adding the ready times of idle wires changes nothing
added_idle : (us : List ℕ) → length us ≡ 5 → greatest (added_up idle us) ≡ greatest us
added_idle us l =
    le_antisymm
    (greatest_until (added_up idle us) (greatest us) (λ w. omega (arith, added_at idle us w, idle_at w, until_greatest us w)))
    (greatest_until us (greatest (added_up idle us)) (λ w. omega (arith, added_at idle us w, until_greatest (added_up idle us) w)))

pub depth_reverse : (duration : ℕ → ℕ) (gs : List ℕ) → depth duration (reverse gs) ≡ depth duration gs
unfolding along
depth_reverse duration gs =
    sym (depth_halves duration [] gs ∙ added_idle (ready_times duration (reverse gs)) (length_ready duration (reverse gs) idle))
