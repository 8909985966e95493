-- Two steps in either order: on columns where the gates commute, on ready times where they have no wire in common. A gate that fires in
-- no row, and one that comes twice, change nothing.
use mathlib.Core.Path.{◌≡◌, refl, sym, ap, ap₂, ◌∙◌}
use mathlib.Core.Bool.{Bool, true, false}
use mathlib.Core.List.{List, [], ◌∷◌, ◌++◌, Memᴰ}
use Prim.Native.Nat.{ℕ, ◌+◌, ◌<◌, max}
use native.Mathlib.Decide.{ℕ_discrete}
use borrow.Author.Tests.{eqb-false, eq-eqb, ne_eqb}
use lib.Bits.{bit_and, bit_xor, xor_zero_r}
use lib.Dec.{eqb}
use lib.ListN.{length, get_or, set, get_or-eq_default}
use lib.Seq.{ext_get_or, get_or-set_other, set-get_or}
use Rattle.logic.specs.Rules.{either, pick}
use Rattle.logic.specs.Lists.{along}
use Rattle.logic.proofs.Cells.{set_at}
use Rattle.logic.proofs.Chain.{either_first, either_second, either_neither, not_so}
use Rattle.logic.proofs.Fold.{along_append}
use Rattle.logic.proofs.Xor.{xor_swap, xor_cancel}
use Rattle.gate.specs.declared.Gate.{Gate}
use Rattle.gate.specs.declared.Kind.{Kind}
use Rattle.gate.specs.declared.Kind.TheVariants.{Not, Cnot, Toffoli, Cccnot}
use Rattle.gate.specs.Inner.{firing, column_step}
use Rattle.gate.proofs.Slices.{length_step}
use Rattle.circuit.specs.Measure.{controls_ready, start, hold}
use Rattle.circuit.proofs.Times.{holds_control, holds, length_hold, hold_at, hold_past, wire_wise}
use Rattle.normal_forms.proofs.Wires.{Commute, Apart}

-- what a kind reads is the same after a write elsewhere
module _ (cs : List ℕ) (t x : ℕ) where
  kept : (a : ℕ) → eqb t a ≡ false → get_or (set cs t x) a 0 ≡ get_or cs a 0
  kept a h = get_or-set_other cs t a x 0 (λ e. eqb-false t a h (sym e))

  firing_kept : (k : Kind) → holds_control k t ≡ false → firing k (set cs t x) ≡ firing k cs
  firing_kept Not h = refl
  firing_kept (Cnot a) h = kept a h
  firing_kept (Toffoli a b) h = let p = either_neither (eqb t b) (eqb t a) h in ap₂ bit_and (kept a p.1) (kept b p.0)
  firing_kept (Cccnot a b c) h =
      let p = either_neither (eqb t c) (either (eqb t b) (eqb t a)) h in
      let q = either_neither (eqb t b) (eqb t a) p.1 in
      ap₂ bit_and (ap₂ bit_and (kept a q.1) (kept b q.0)) (kept c p.0)

firing_step : (k : Kind) (h : Gate) (cs : List ℕ) → holds_control k h.target ≡ false → firing k (column_step h cs) ≡ firing k cs
unfolding column_step
firing_step k h cs f = firing_kept cs h.target _ k f

-- one wire after a step
step_at : (g : Gate) (cs : List ℕ) (w : ℕ) → w < length cs
    → get_or (column_step g cs) w 0 ≡ pick (eqb w g.target) (bit_xor (get_or cs w 0) (firing g.kind cs)) (get_or cs w 0)
unfolding column_step
step_at g cs w h = set_at cs g.target (bit_xor (get_or cs g.target 0) (firing g.kind cs)) w h ∙ by_place (ℕ_discrete w g.target)
  where
    by_place : Dec (w ≡ g.target) → pick (eqb w g.target) (bit_xor (get_or cs g.target 0) (firing g.kind cs)) (get_or cs w 0)
        ≡ pick (eqb w g.target) (bit_xor (get_or cs w 0) (firing g.kind cs)) (get_or cs w 0)
    by_place (yes e) = rw e
    by_place (no n) = rw (ne_eqb w g.target n)

-- and after two
two_at : (g h : Gate) (cs : List ℕ) (w : ℕ) → w < length cs → holds_control g.kind h.target ≡ false
    → let x = pick (eqb w h.target) (bit_xor (get_or cs w 0) (firing h.kind cs)) (get_or cs w 0) in
    get_or (column_step g (column_step h cs)) w 0 ≡ pick (eqb w g.target) (bit_xor x (firing g.kind cs)) x
two_at g h cs w k f =
    step_at g (column_step h cs) w (rw (length_step h cs) k)
    ∙ ap₂ (λ (x y : ℕ). pick (eqb w g.target) (bit_xor x y) x) (step_at h cs w k) (firing_step g.kind h cs f)

crossed : (s t : Bool) (x f h : ℕ) → pick s (bit_xor (pick t (bit_xor x h) x) f) (pick t (bit_xor x h) x) ≡ pick t (bit_xor (pick s (bit_xor x f) x) h) (pick s (bit_xor x f) x)
crossed true true x f h = xor_swap x h f
crossed true false x f h = refl
crossed false true x f h = refl
crossed false false x f h = refl

doubled : (s : Bool) (x f : ℕ) → pick s (bit_xor (pick s (bit_xor x f) x) f) (pick s (bit_xor x f) x) ≡ x
doubled true x f = xor_cancel x f
doubled false x f = refl

length_two : (g h : Gate) (cs : List ℕ) → length (column_step g (column_step h cs)) ≡ length cs
length_two g h cs = length_step g (column_step h cs) ∙ length_step h cs

pub exchange : (g h : Gate) (cs : List ℕ) → Commute g h → column_step g (column_step h cs) ≡ column_step h (column_step g cs)
exchange g h cs c =
    ext_get_or 0 (column_step g (column_step h cs)) (column_step h (column_step g cs)) (length_two g h cs ∙ sym (length_two h g cs)) λ w k.
    let i : w < length cs = rw (length_two g h cs) at k in
    two_at g h cs w i c.first_free
    ∙ crossed (eqb w g.target) (eqb w h.target) (get_or cs w 0) (firing g.kind cs) (firing h.kind cs)
    ∙ sym (two_at h g cs w i c.second_free)

pub twice : (g : Gate) (cs : List ℕ) → Commute g g → column_step g (column_step g cs) ≡ cs
twice g cs c =
    ext_get_or 0 (column_step g (column_step g cs)) cs (length_two g g cs) λ w k.
    two_at g g cs w (rw (length_two g g cs) at k) c.first_free ∙ doubled (eqb w g.target) (get_or cs w 0) (firing g.kind cs)

pub idle_step : (g : Gate) (cs : List ℕ) → firing g.kind cs ≡ 0 → column_step g cs ≡ cs
unfolding column_step
idle_step g cs h =
    ap (λ (f : ℕ). set cs g.target (bit_xor (get_or cs g.target 0) f)) h ∙ ap (set cs g.target) (xor_zero_r (get_or cs g.target 0)) ∙ set-get_or cs g.target 0

-- a gate starts at the same time where its wires are ready at the same times
start_same : (g : Gate) (ts us : List ℕ) → ((w : ℕ) → holds g w ≡ true → get_or ts w 0 ≡ get_or us w 0) → start g ts ≡ start g us
start_same g ts us f =
    ap₂ max (f g.target (either_first (eqb g.target g.target) (holds_control g.kind g.target) (itself g.target)))
    (by_kind g.kind (λ w h. f w (either_second (eqb w g.target) (holds_control g.kind w) h)))
  where
    itself : (a : ℕ) → eqb a a ≡ true
    itself a = eq-eqb a a refl

    by_kind : (k : Kind) → ((w : ℕ) → holds_control k w ≡ true → get_or ts w 0 ≡ get_or us w 0) → controls_ready k ts ≡ controls_ready k us
    by_kind Not f = refl
    by_kind (Cnot a) f = f a (itself a)
    by_kind (Toffoli a b) f = ap₂ max (f a (either_second (eqb a b) (eqb a a) (itself a))) (f b (either_first (eqb b b) (eqb b a) (itself b)))
    by_kind (Cccnot a b c) f =
        ap₂ max
        (ap₂ max (f a (either_second (eqb a c) (either (eqb a b) (eqb a a)) (either_second (eqb a b) (eqb a a) (itself a))))
        (f b (either_second (eqb b c) (either (eqb b b) (eqb b a)) (either_first (eqb b b) (eqb b a) (itself b)))))
        (f c (either_first (eqb c c) (either (eqb c b) (eqb c a)) (itself c)))

-- a wire that a gate does not hold
unheld : (h : Gate) (e : ℕ) (ts : List ℕ) (w : ℕ) → (w < length ts → holds h w ≡ false) → get_or (hold h e ts) w 0 ≡ get_or ts w 0
unheld h e ts w f =
    wire_wise {P = λ (w : ℕ). (w < length ts → holds h w ≡ false) → get_or (hold h e ts) w 0 ≡ get_or ts w 0} ts
    (λ w k f. rw (hold_at h e ts w k, f k))
    (λ w k f. hold_past h e ts w k ∙ sym (get_or-eq_default ts 0 k))
    w f

start_after_other : (g h : Gate) (e : ℕ) (ts : List ℕ) → length ts ≡ 5 → Apart g h → start g (hold h e ts) ≡ start g ts
start_after_other g h e ts l d = start_same g (hold h e ts) ts (λ w s. unheld h e ts w (λ k. not_so (holds h w) (d w (rw l at k) s)))

two_held : (g h : Gate) (d e : ℕ) (ts : List ℕ) (w : ℕ) → length ts ≡ 5 → Apart g h → w < length ts
    → get_or (hold g d (hold h e ts)) w 0 ≡ pick (holds g w) (start g ts + d) (pick (holds h w) (start h ts + e) (get_or ts w 0))
two_held g h d e ts w l a k =
    hold_at g d (hold h e ts) w (rw (length_hold h e ts) k)
    ∙ ap₂ (λ (x y : ℕ). pick (holds g w) (x + d) y) (start_after_other g h e ts l a) (hold_at h e ts w k)

crossing : (s t : Bool) (x y z : ℕ) → (s ≡ true → t ≡ true → ⊥) → pick s x (pick t y z) ≡ pick t y (pick s x z)
crossing true true x y z f = absurd (f refl refl)
crossing true false x y z f = refl
crossing false true x y z f = refl
crossing false false x y z f = refl

pub exchange_times : (g h : Gate) (d e : ℕ) (ts : List ℕ) → length ts ≡ 5 → Apart g h → hold g d (hold h e ts) ≡ hold h e (hold g d ts)
exchange_times g h d e ts l a =
    let n = length_hold g d (hold h e ts) ∙ length_hold h e ts in
    ext_get_or 0 (hold g d (hold h e ts)) (hold h e (hold g d ts)) (n ∙ sym (length_hold h e (hold g d ts) ∙ length_hold g d ts)) λ w k.
    let i : w < length ts = rw n at k in
    two_held g h d e ts w l a i
    ∙ crossing (holds g w) (holds h w) (start g ts + d) (start h ts + e) (get_or ts w 0) (a w (rw l at i))
    ∙ sym (two_held h g e d ts w l (λ v j p q. a v j q p) i)

-- a step that can change places with every step of a list can come before it or after it
module _ (f : ℕ → List ℕ → List ℕ) (keeps : (a : ℕ) (s : List ℕ) → length (f a s) ≡ length s) (b : ℕ) where
  pub passes : (c s : List ℕ) → length s ≡ 5 → ((a : ℕ) → Memᴰ a c → (s : List ℕ) → length s ≡ 5 → f b (f a s) ≡ f a (f b s))
      → along f c (f b s) ≡ f b (along f c s)
  unfolding along
  passes [] s l p = refl
  passes (a ∷ c) s l p =
      ap (along f c) (sym (p a (Memᴰ.head refl) s l))
      ∙ passes c (f a s) (keeps a s ∙ l) (λ x m. p x (Memᴰ.tail m))

pub moved : (f : ℕ → List ℕ → List ℕ) (b : ℕ) (l c e s : List ℕ) → along f c (f b (along f l s)) ≡ f b (along f c (along f l s))
    → along f (l ++ (b ∷ (c ++ e))) s ≡ along f (l ++ (c ++ (b ∷ e))) s
unfolding along
moved f b l c e s h =
    let t = along f l s in
    along_append f l (b ∷ (c ++ e)) s ∙ along_append f c e (f b t) ∙ ap (along f e) h ∙ sym (along_append f c (b ∷ e) t) ∙ sym (along_append f l (c ++ (b ∷ e)) s)
