-- Laying the wires out in another order: a permutation of the five wires, under which the rows of the columns, the gates and the shares
-- turn into each other.
use mathlib.Core.Path.{◌≡◌, refl, sym, ap, ◌∙◌}
use mathlib.Core.Bool.{Bool, true, false, false≢true}
use mathlib.Core.Logic.{⊎_elim}
use mathlib.Core.List.{List, Memᴰ}
use Prim.Native.Nat.{ℕ, zero, suc, ◌+◌, ◌*◌, ◌≤◌, ◌<◌}
use native.Mathlib.Decide.{ℕ_discrete}
use native.Mathlib.Omega.{arith}
use borrow.Author.Tests.{eqb-true, ltb-true, eq-eqb, ne_eqb}
use lib.Bits.{bit_xor}
use lib.Dec.{eqb, ltb}
use lib.ListN.{length, get_or}
use Rattle.logic.specs.Rules.{both, either, implies, pick, bit, all_below, some_below}
use Rattle.logic.specs.Bit.{bit_of}
use Rattle.logic.proofs.Chain.{both_left, both_right, implied}
use Rattle.logic.proofs.Below.{below}
use Rattle.logic.proofs.Counts.{same_truth, all_below_law}
use Rattle.gate.specs.Gates.{target_of, mask_of, lawful, fires, step, gate_of}
use Rattle.gate.specs.Published.{added}
use Rattle.gate.specs.Inner.{column_step}
use Rattle.gate.proofs.Widen.{parts}
use Rattle.gate.proofs.Undo.{undo, stay}
use Rattle.gate.proofs.Published.{fire_bit, bit_after}
use Rattle.gate.proofs.Slices.{Row, row_step}
use Rattle.table.specs.layouts.Layouts.{Width, layout_ok, layouts_for}
use Rattle.table.proofs.layouts.Layouts.{allowed_ok}
use Rattle.bloom.proofs.hash.Words.{spelt}
use Rattle.reach_filter.specs.mirrors.Mirrors.{wire_at, same_control, mirrors}

-- where a test holds somewhere below a bound
pub found : (f : ℕ → Bool) (n : ℕ) → some_below n f ≡ true → (w : ℕ) × ((w < n) × (f w ≡ true))
found f zero h = absurd (false≢true h)
found f (suc n) h = by_last (f n) refl h (found f n)
  where
    by_last : (b : Bool) → f n ≡ b → either b (some_below n f) ≡ true → (some_below n f ≡ true → (w : ℕ) × ((w < n) × (f w ≡ true)))
        → (w : ℕ) × ((w < suc n) × (f w ≡ true))
    by_last true e h rest = (n, (omega arith, e))
    by_last false e h rest = let r = rest h in (r.0, (omega (arith, r.1.0), r.1.1))

pub width_le : (n : ℕ) → Width n → n ≤ 4
width_le n width = ⊎_elim (λ e. omega arith) (λ e. omega arith) width

implies_from : (a b : Bool) → (a ≡ true → b ≡ true) → implies a b ≡ true
implies_from true b h = h refl
implies_from false b h = refl

-- a mask fires where each of its bits is set: computed for all
abbrev lit_in : ℕ → ℕ → ℕ → Bool
lit_in m v w = implies (eqb (bit_of w m) 1) (eqb (bit_of w v) 1)

abbrev lit_all : ℕ → ℕ → Bool
lit_all m v = all_below 5 (lit_in m v)

abbrev same_lit : ℕ → ℕ → Bool
same_lit m v = both (implies (fires m v) (lit_all m v)) (implies (lit_all m v) (fires m v))

abbrev same_lits : ℕ → Bool
same_lits m = all_below 32 (same_lit m)

same_lits_law : all_below 32 same_lits ≡ true
same_lits_law = refl

fires_lit : (m v : ℕ) → m < 32 → v < 32 → fires m v ≡ lit_all m v
fires_lit m v hm hv =
    let s = below 32 (same_lit m) (below 32 same_lits same_lits_law m hm) v hv in
    same_truth (fires m v) (lit_all m v)
    (implied (fires m v) (lit_all m v) (both_left (implies (fires m v) (lit_all m v)) (implies (lit_all m v) (fires m v)) s))
    (implied (lit_all m v) (fires m v) (both_right (implies (fires m v) (lit_all m v)) (implies (lit_all m v) (fires m v)) s))

-- the value of row x
module _ (cs : List ℕ) (x : ℕ) where
  abbrev bit_at : ℕ → ℕ
  bit_at w = bit_of x (get_or cs w 0)

  abbrev value_at : ℕ
  value_at = bit_at 0 + 2 * bit_at 1 + 4 * bit_at 2 + 8 * bit_at 3 + 16 * bit_at 4

  value_lt : value_at < 32
  value_lt = omega arith

  value_row : Row cs x value_at
  value_row w h = sym (spelt bit_at (λ v. omega arith) w h)

-- what is computed of every layout: wires stay below 5, no two change into one, and every wire is one's
abbrev in_five : ℕ → ℕ → ℕ → Bool
in_five n p w = ltb (wire_at n p w) 5

abbrev apart : ℕ → ℕ → ℕ → ℕ → Bool
apart n p v w = implies (eqb (wire_at n p v) (wire_at n p w)) (eqb v w)

abbrev aparts : ℕ → ℕ → ℕ → Bool
aparts n p v = all_below 5 (apart n p v)

abbrev is_at : ℕ → ℕ → ℕ → ℕ → Bool
is_at n p v w = eqb (wire_at n p w) v

abbrev reached : ℕ → ℕ → ℕ → Bool
reached n p v = some_below 5 (is_at n p v)

abbrev permutes : ℕ → ℕ → Bool
permutes n p = implies (layout_ok n p) (both (all_below 5 (in_five n p)) (both (all_below 5 (aparts n p)) (all_below 5 (reached n p))))

three_permute : all_below 256 (permutes 3) ≡ true
unfolding layout_ok wire_at
three_permute = refl

four_permute : all_below 256 (permutes 4) ≡ true
unfolding layout_ok wire_at
four_permute = refl

module _ (n free p : ℕ) (width : Width n) (m : Memᴰ p (layouts_for n free)) where
  abbrev π : ℕ → ℕ
  π w = wire_at n p w

  computed : both (all_below 5 (in_five n p)) (both (all_below 5 (aparts n p)) (all_below 5 (reached n p))) ≡ true
  computed =
      let ok = allowed_ok n free p width m in
      implied (layout_ok n p) (both (all_below 5 (in_five n p)) (both (all_below 5 (aparts n p)) (all_below 5 (reached n p))))
      (⊎_elim (λ (e : n ≡ 3). rw e (below 256 (permutes 3) three_permute p ok.0)) (λ (e : n ≡ 4). rw e (below 256 (permutes 4) four_permute p ok.0)) width)
      ok.1

  pub turn_inside : (w : ℕ) → w < 5 → π w < 5
  turn_inside w h =
      ltb-true (wire_at n p w) 5
      (below 5 (in_five n p) (both_left (all_below 5 (in_five n p)) (both (all_below 5 (aparts n p)) (all_below 5 (reached n p))) computed) w h)

  rest : both (all_below 5 (aparts n p)) (all_below 5 (reached n p)) ≡ true
  rest = both_right (all_below 5 (in_five n p)) (both (all_below 5 (aparts n p)) (all_below 5 (reached n p))) computed

  pub turn_once : (v w : ℕ) → v < 5 → w < 5 → π v ≡ π w → v ≡ w
  turn_once v w hv hw e =
      eqb-true v w
      (implied (eqb (wire_at n p v) (wire_at n p w)) (eqb v w)
      (below 5 (apart n p v) (below 5 (aparts n p) (both_left (all_below 5 (aparts n p)) (all_below 5 (reached n p)) rest) v hv) w hw)
      (eq-eqb (wire_at n p v) (wire_at n p w) e))

  pub turn_onto : (v : ℕ) → v < 5 → (w : ℕ) × ((w < 5) × (π w ≡ v))
  turn_onto v h =
      let f = found (is_at n p v) 5 (below 5 (reached n p) (both_right (all_below 5 (aparts n p)) (all_below 5 (reached n p)) rest) v h) in
      (f.0, (f.1.0, eqb-true (wire_at n p f.0) v f.1.1))

  -- u has on each wire what v has on the wire laid out for it
  abbrev Turned : ℕ → ℕ → Type 0
  Turned v u = (w : ℕ) → w < 5 → bit_of (π w) v ≡ bit_of w u

  -- so have the rows x of two lists of columns
  abbrev pub Alike : ℕ → List ℕ → List ℕ → Type 0
  Alike x cs ds = (w : ℕ) → w < 5 → bit_of x (get_or cs (π w) 0) ≡ bit_of x (get_or ds w 0)

  module _ (g h : ℕ) (lg : lawful 3 5 g ≡ true) (lh : lawful 3 5 h ≡ true) (mir : mirrors n p g h ≡ true) where
    same_target : π (target_of h) ≡ target_of g
    unfolding mirrors
    same_target = eqb-true (π (target_of h)) (target_of g) (both_left (eqb (π (target_of h)) (target_of g)) (all_below 5 (same_control n p g h)) mir)

    same_control_law : (w : ℕ) → w < 5 → bit_of w (mask_of h) ≡ bit_of (π w) (mask_of g)
    unfolding mirrors
    same_control_law w l =
        eqb-true (bit_of w (mask_of h)) (bit_of (π w) (mask_of g))
        (below 5 (same_control n p g h) (both_right (eqb (π (target_of h)) (target_of g)) (all_below 5 (same_control n p g h)) mir) w l)

    hits : (w : ℕ) → w < 5 → eqb (π w) (target_of g) ≡ eqb w (target_of h)
    hits w l = by_wire (ℕ_discrete w (target_of h))
      where
        by_wire : Dec (w ≡ target_of h) → eqb (π w) (target_of g) ≡ eqb w (target_of h)
        by_wire (yes e) = eq-eqb (π w) (target_of g) (ap π e ∙ same_target) ∙ sym (eq-eqb w (target_of h) e)
        by_wire (no d) =
            ne_eqb (π w) (target_of g) (λ e. d (turn_once w (target_of h) l (parts 3 5 h lh).target (e ∙ sym same_target)))
            ∙ sym (ne_eqb w (target_of h) d)

    module _ (v u : ℕ) (hv : v < 32) (hu : u < 32) (t : Turned v u) where
      fires_turned : fires (mask_of g) v ≡ fires (mask_of h) u
      fires_turned =
          fires_lit (mask_of g) v (omega arith) hv
          ∙ same_truth (lit_all (mask_of g) v) (lit_all (mask_of h) u)
          (λ a. all_below_law (lit_in (mask_of h) u) 5 (λ w l. implies_from (eqb (bit_of w (mask_of h)) 1) (eqb (bit_of w u) 1) (λ b.
          eq-eqb (bit_of w u) 1 (sym (t w l) ∙ eqb-true (bit_of (π w) v) 1
          (implied (eqb (bit_of (π w) (mask_of g)) 1) (eqb (bit_of (π w) v) 1) (below 5 (lit_in (mask_of g) v) a (π w) (turn_inside w l))
          (eq-eqb (bit_of (π w) (mask_of g)) 1 (sym (same_control_law w l) ∙ eqb-true (bit_of w (mask_of h)) 1 b)))))))
          (λ a. all_below_law (lit_in (mask_of g) v) 5 (λ w l. from a (turn_onto w l)))
          ∙ sym (fires_lit (mask_of h) u (omega arith) hu)
        where
          from : lit_all (mask_of h) u ≡ true → {w : ℕ} → (j : ℕ) × ((j < 5) × (π j ≡ w)) → lit_in (mask_of g) v w ≡ true
          from a {w} o =
              let j = o.0 in
              let l = o.1.0 in
              let e = o.1.1 in
              implies_from (eqb (bit_of w (mask_of g)) 1) (eqb (bit_of w v) 1) (λ b.
              eq-eqb (bit_of w v) 1 (ap (λ (z : ℕ). bit_of z v) (sym e) ∙ t j l ∙ eqb-true (bit_of j u) 1
              (implied (eqb (bit_of j (mask_of h)) 1) (eqb (bit_of j u) 1) (below 5 (lit_in (mask_of h) u) a j l)
              (eq-eqb (bit_of j (mask_of h)) 1 (same_control_law j l ∙ ap (λ (z : ℕ). bit_of z (mask_of g)) e ∙ eqb-true (bit_of w (mask_of g)) 1 b)))))

      added_turned : added (gate_of g).kind v ≡ added (gate_of h).kind u
      unfolding gate_of
      added_turned =
          sym (fire_bit (mask_of g) v (omega arith) (parts 3 5 g lg).few)
          ∙ ap bit fires_turned
          ∙ fire_bit (mask_of h) u (omega arith) (parts 3 5 h lh).few

      step_turned : Turned (step g v) (step h u)
      step_turned w l =
          bit_after g lg v (π w) hv (turn_inside w l)
          ∙ (λ i. pick (hits w l i) (bit_xor (t w l i) (added_turned i)) (t w l i))
          ∙ sym (bit_after h lh u w hu l)

    -- if ds is what g makes of cs, with the wires renamed, then the mirror h leads from ds back to cs with the wires renamed
    pub alike_step : (x : ℕ) (cs ds : List ℕ) → x < 16 → length cs ≡ 5 → length ds ≡ 5 → Alike x (column_step (gate_of g) cs) ds → Alike x cs (column_step (gate_of h) ds)
    alike_step x cs ds hx lc ld al w l =
        let v = value_at cs x in
        let u = value_at ds x in
        let hv = value_lt cs x in
        let hu = value_lt ds x in
        let rg = row_step cs x v hx (value_row cs x) g lg lc hv in
        let rh = row_step ds x u hx (value_row ds x) h lh ld hu in
        let t = step_turned (step g v) u (stay 3 5 g v lg hv) hu (λ z k. sym (rg (π z) (turn_inside z k)) ∙ al z k ∙ value_row ds x z k) in
        value_row cs x (π w) (turn_inside w l)
        ∙ ap (bit_of (π w)) (sym (undo 3 5 g v (omega arith) lg hv))
        ∙ t w l
        ∙ sym (rh w l)
