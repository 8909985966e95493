-- What one gate does to the ready times, wire by wire. The laws: a gate makes no ready time earlier, and none later than the latest by
-- more than its duration; and it is monotone: from ready times that are nowhere later it gives ready times that are nowhere later.
use mathlib.Core.Path.{◌≡◌, refl, sym, ap, ◌∙◌}
use mathlib.Core.Logic.{⊎_elim}
use mathlib.Core.Bool.{Bool, true, false, false≢true}
use mathlib.Core.List.{List, [], ◌∷◌}
use Prim.Native.Nat.{ℕ, zero, suc, ◌+◌, ◌≤◌, ◌<◌, max}
use native.Mathlib.Nat.{le_trans}
use native.Mathlib.Decide.{dec_lt}
use native.Mathlib.Omega.{arith}
use borrow.Author.Tests.{eqb-true}
use lib.Dec.{eqb}
use lib.ListN.{length, get_or, set, length-set, get_or-eq_default}
use Rattle.logic.specs.Rules.{either, pick}
use Rattle.logic.specs.Lists.{total, along}
use Rattle.logic.proofs.Cells.{set_at}
use Rattle.logic.proofs.Chain.{either_cases}
use Rattle.gate.specs.declared.Gate.{Gate}
use Rattle.gate.specs.declared.Kind.{Kind}
use Rattle.gate.specs.declared.Kind.TheVariants.{Not, Cnot, Toffoli, Cccnot}
use Rattle.gate.specs.Gates.{gate_of}
use Rattle.circuit.specs.Measure.{controls_ready, start, hold_controls, hold, hold_byte, greatest, idle}

-- whether a gate holds a wire
abbrev pub holds_control : Kind → ℕ → Bool
holds_control Not w = false
holds_control (Cnot a) w = eqb w a
holds_control (Toffoli a b) w = either (eqb w b) (eqb w a)
holds_control (Cccnot a b c) w = either (eqb w c) (either (eqb w b) (eqb w a))

abbrev pub holds : Gate → ℕ → Bool
holds g w = either (eqb w g.target) (holds_control g.kind w)

length_controls : (k : Kind) (e : ℕ) (ts : List ℕ) → length (hold_controls k e ts) ≡ length ts
length_controls Not e ts = refl
length_controls (Cnot a) e ts = length-set ts a e
length_controls (Toffoli a b) e ts = simp length-set
length_controls (Cccnot a b c) e ts = simp length-set

pub length_hold : (g : Gate) (d : ℕ) (ts : List ℕ) → length (hold g d ts) ≡ length ts
unfolding hold
length_hold g d ts =
    length-set (hold_controls g.kind (start g ts + d) ts) g.target (start g ts + d) ∙ length_controls g.kind (start g ts + d) ts

nested : (s t : Bool) (e x : ℕ) → pick s e (pick t e x) ≡ pick (either s t) e x
nested true t e x = refl
nested false t e x = refl

-- one wire more is held
held_at : (us : List ℕ) (a e w x : ℕ) (t : Bool) → w < length us → get_or us w 0 ≡ pick t e x
    → get_or (set us a e) w 0 ≡ pick (either (eqb w a) t) e x
held_at us a e w x t h q = set_at us a e w h ∙ ap (pick (eqb w a) e) q ∙ nested (eqb w a) t e x

controls_at : (k : Kind) (e : ℕ) (ts : List ℕ) (w : ℕ) → w < length ts
    → get_or (hold_controls k e ts) w 0 ≡ pick (holds_control k w) e (get_or ts w 0)
controls_at Not e ts w h = refl
controls_at (Cnot a) e ts w h = set_at ts a e w h
controls_at (Toffoli a b) e ts w h =
    held_at (set ts a e) b e w (get_or ts w 0) (eqb w a) (rw (length-set ts a e) h) (set_at ts a e w h)
controls_at (Cccnot a b c) e ts w h =
    let i : w < length (set ts a e) = rw (length-set ts a e) h in
    held_at (set (set ts a e) b e) c e w (get_or ts w 0) (either (eqb w b) (eqb w a)) (rw (length-set (set ts a e) b e) i)
    (held_at (set ts a e) b e w (get_or ts w 0) (eqb w a) i (set_at ts a e w h))

-- the wires that a gate holds become ready at its end, the others stay
pub hold_at : (g : Gate) (d : ℕ) (ts : List ℕ) (w : ℕ) → w < length ts
    → get_or (hold g d ts) w 0 ≡ pick (holds g w) (start g ts + d) (get_or ts w 0)
unfolding hold
hold_at g d ts w h =
    let e = start g ts + d in
    held_at (hold_controls g.kind e ts) g.target e w (get_or ts w 0) (holds_control g.kind w) (rw (length_controls g.kind e ts) h)
    (controls_at g.kind e ts w h)

pub hold_past : (g : Gate) (d : ℕ) (ts : List ℕ) (w : ℕ) → length ts ≤ w → get_or (hold g d ts) w 0 ≡ 0
hold_past g d ts w h = get_or-eq_default (hold g d ts) 0 (rw (length_hold g d ts) h)

-- one vector of ready times is nowhere later than another
abbrev pub Sooner : List ℕ → List ℕ → Type 0
Sooner ts us = (w : ℕ) → get_or ts w 0 ≤ get_or us w 0

-- no ready time is later than m
abbrev pub Until : ℕ → List ℕ → Type 0
Until m ts = (w : ℕ) → get_or ts w 0 ≤ m

pub start_until : (g : Gate) (m : ℕ) (ts : List ℕ) → Until m ts → start g ts ≤ m
start_until g m ts h = by_kind g.kind
  where
    by_kind : (k : Kind) → max (get_or ts g.target 0) (controls_ready k ts) ≤ m
    by_kind Not = omega (arith, h g.target)
    by_kind (Cnot a) = omega (arith, h g.target, h a)
    by_kind (Toffoli a b) = omega (arith, h g.target, h a, h b)
    by_kind (Cccnot a b c) = omega (arith, h g.target, h a, h b, h c)

-- a gate starts no later where no wire is ready later
start_sooner : (g : Gate) (ts us : List ℕ) → Sooner ts us → start g ts ≤ start g us
start_sooner g ts us s = by_kind g.kind
  where
    by_kind : (k : Kind) → max (get_or ts g.target 0) (controls_ready k ts) ≤ max (get_or us g.target 0) (controls_ready k us)
    by_kind Not = omega (arith, s g.target)
    by_kind (Cnot a) = omega (arith, s g.target, s a)
    by_kind (Toffoli a b) = omega (arith, s g.target, s a, s b)
    by_kind (Cccnot a b c) = omega (arith, s g.target, s a, s b, s c)

-- a gate starts when all its wires are ready
pub start_after : (g : Gate) (ts : List ℕ) (w : ℕ) → holds g w ≡ true → get_or ts w 0 ≤ start g ts
start_after g ts w h =
    ⊎_elim (λ e. same g.target (eqb-true w g.target e) (omega arith)) (λ e. by_kind g.kind e)
    (either_cases (eqb w g.target) (holds_control g.kind w) h)
  where
    same : {m : ℕ} (i : ℕ) → w ≡ i → get_or ts i 0 ≤ m → get_or ts w 0 ≤ m
    same i e h = rw e h

    one_of_two : {m : ℕ} (a b : ℕ) → get_or ts a 0 ≤ m → get_or ts b 0 ≤ m → either (eqb w b) (eqb w a) ≡ true → get_or ts w 0 ≤ m
    one_of_two a b ha hb e =
        ⊎_elim (λ e. same b (eqb-true w b e) hb) (λ e. same a (eqb-true w a e) ha) (either_cases (eqb w b) (eqb w a) e)

    by_kind : (k : Kind) → holds_control k w ≡ true → get_or ts w 0 ≤ max (get_or ts g.target 0) (controls_ready k ts)
    by_kind Not e = absurd (false≢true e)
    by_kind (Cnot a) e = same a (eqb-true w a e) (omega arith)
    by_kind (Toffoli a b) e = one_of_two a b (omega arith) (omega arith) e
    by_kind (Cccnot a b c) e =
        ⊎_elim (λ e. same c (eqb-true w c e) (omega arith)) (λ e. one_of_two a b (omega arith) (omega arith) e)
        (either_cases (eqb w c) (either (eqb w b) (eqb w a)) e)

-- by cases: a wire of the list, or a wire past its end
pub wire_wise : {P : ℕ → Type 0} (ts : List ℕ) → ((w : ℕ) → w < length ts → P w) → ((w : ℕ) → length ts ≤ w → P w) → (w : ℕ) → P w
wire_wise {P} ts f g w = go (dec_lt w (length ts))
  where
    go : Dec (w < length ts) → P w
    go (yes h) = f w h
    go (no h) = g w (omega arith)

module _ (g : Gate) (d : ℕ) (ts : List ℕ) where
  -- no wire becomes ready earlier
  pub hold_rises : Sooner ts (hold g d ts)
  hold_rises =
      wire_wise ts (λ w h. rw (hold_at g d ts w h) (inner w (holds g w) refl)) (λ w h. rw (get_or-eq_default ts 0 h) (omega arith))
    where
      inner : (w : ℕ) (t : Bool) → holds g w ≡ t → get_or ts w 0 ≤ pick t (start g ts + d) (get_or ts w 0)
      inner w true e = omega (arith, start_after g ts w e)
      inner w false e = omega arith

  -- no wire becomes ready later than the latest one by more than the duration
  pub hold_until : (m : ℕ) → Until m ts → Until (m + d) (hold g d ts)
  hold_until m u = wire_wise ts (λ w h. rw (hold_at g d ts w h) (inner w (holds g w))) (λ w h. rw (hold_past g d ts w h) (omega arith))
    where
      inner : (w : ℕ) (t : Bool) → pick t (start g ts + d) (get_or ts w 0) ≤ m + d
      inner w true = omega (arith, start_until g m ts u)
      inner w false = omega (arith, u w)

  -- from ready times that are nowhere later, a gate gives ready times that are nowhere later
  pub hold_sooner : (us : List ℕ) → length ts ≡ length us → Sooner ts us → Sooner (hold g d ts) (hold g d us)
  hold_sooner us l s =
      wire_wise ts
      (λ w h. let k : w < length us = omega arith in rw (hold_at g d ts w h, hold_at g d us w k) (inner w (holds g w)))
      (λ w h. rw (hold_past g d ts w h) (omega arith))
    where
      inner : (w : ℕ) (t : Bool) → pick t (start g ts + d) (get_or ts w 0) ≤ pick t (start g us + d) (get_or us w 0)
      inner w true = omega (arith, start_sooner g ts us s)
      inner w false = s w

module _ (duration : ℕ → ℕ) where
  pub length_ready : (gs ts : List ℕ) → length (along (hold_byte duration) gs ts) ≡ length ts
  unfolding along
  length_ready [] ts = refl
  length_ready (b ∷ gs) ts = length_ready gs (hold_byte duration b ts) ∙ length_hold (gate_of b) (duration b) ts

  -- and so does a list of gates
  pub ready_sooner : (gs ts us : List ℕ) → length ts ≡ length us → Sooner ts us → Sooner (along (hold_byte duration) gs ts) (along (hold_byte duration) gs us)
  unfolding along
  ready_sooner [] ts us l s = s
  ready_sooner (b ∷ gs) ts us l s =
      ready_sooner gs (hold_byte duration b ts) (hold_byte duration b us)
      (length_hold (gate_of b) (duration b) ts ∙ l ∙ sym (length_hold (gate_of b) (duration b) us))
      (hold_sooner (gate_of b) (duration b) ts us l s)

  -- a list of gates makes no wire ready earlier
  pub ready_rises : (gs ts : List ℕ) → Sooner ts (along (hold_byte duration) gs ts)
  unfolding along
  ready_rises [] ts w = omega arith
  ready_rises (b ∷ gs) ts w = le_trans (hold_rises (gate_of b) (duration b) ts w) (ready_rises gs (hold_byte duration b ts) w)

  -- and none ready later than the latest one by more than the sum of its durations
  pub ready_until : (gs ts : List ℕ) (m : ℕ) → Until m ts → Until (m + total duration gs) (along (hold_byte duration) gs ts)
  unfolding along total
  ready_until [] ts m u w = omega (arith, u w)
  ready_until (b ∷ gs) ts m u w =
      omega (arith, ready_until gs (hold_byte duration b ts) (m + duration b) (hold_until (gate_of b) (duration b) ts m u) w)

pub greatest_until : (ts : List ℕ) (m : ℕ) → Until m ts → greatest ts ≤ m
unfolding greatest
greatest_until [] m u = omega arith
greatest_until (t ∷ ts) m u = omega (arith, u 0, greatest_until ts m (λ w. u (suc w)))

pub until_greatest : (ts : List ℕ) → Until (greatest ts) ts
unfolding greatest
until_greatest [] w = omega arith
until_greatest (t ∷ ts) zero = omega arith
until_greatest (t ∷ ts) (suc w) = omega (arith, until_greatest ts w)

pub greatest_sooner : (ts us : List ℕ) → Sooner ts us → greatest ts ≤ greatest us
greatest_sooner ts us s = greatest_until ts (greatest us) (λ w. le_trans (s w) (until_greatest us w))

pub idle_until : Until 0 idle
idle_until zero = omega arith
idle_until (suc zero) = omega arith
idle_until (suc (suc zero)) = omega arith
idle_until (suc (suc (suc zero))) = omega arith
idle_until (suc (suc (suc (suc zero)))) = omega arith
idle_until (suc (suc (suc (suc (suc w))))) = omega arith
