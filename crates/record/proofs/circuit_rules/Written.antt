-- The record of given n, m, mark, layout and gates: its fields read back, and when it is sound.
use mathlib.Core.Path.{◌≡◌, refl, sym, ap, ap₂, ◌∙◌, subst}
use mathlib.Core.Bool.{Bool, true, false}
use mathlib.Core.Logic.{⊎_elim}
use mathlib.Core.List.{List, ◌∷◌}
use Prim.Native.Nat.{ℕ, zero, suc, ◌+◌, ◌-◌, ◌*◌, ◌/◌, ◌%◌, ◌≤◌, ◌<◌}
use native.Mathlib.Omega.{arith}
use borrow.Author.Tests.{eq-eqb, ne_eqb, le-leb, eqb-true}
use lib.Dec.{eqb, leb, lit<}
use lib.ListN.{length, get_or, drop, length-drop}
use lib.Seq.{drop-cons}
use Rattle.logic.specs.Rules.{both, either, pick, bit}
use Rattle.logic.specs.Lists.{all_of}
use Rattle.logic.proofs.Chain.{both_right, both_true, either_first, either_second, rule_kept}
use Rattle.gate.specs.Gates.{lawful}
use Rattle.table.specs.layouts.Layouts.{Width, layout_ok}
use Rattle.record.specs.job_fields.Jobs.{data_wires, ancillas, wires}
use Rattle.record.specs.circuit_fields.Circuits.{marked, controls_of, layout_of, count_byte, gates, head_byte, circuit_bytes}
use Rattle.record.specs.circuit_rules.CircuitRules.{circuit_length_ok, shape_ok, layout_in_order, count_ok, circuit_code}
use Rattle.record.proofs.circuit_rules.Sound.{long_enough}

-- what byte 0 holds
byte_data : (n m : ℕ) (mark : Bool) → m ≤ 1 → head_byte n m mark / 32 ≡ n
byte_data n m true h = omega arith
byte_data n m false h = omega arith

byte_ancillas : (n m : ℕ) (mark : Bool) → m ≤ 1 → head_byte n m mark / 8 % 4 ≡ m
byte_ancillas n m true h = omega arith
byte_ancillas n m false h = omega arith

byte_zeros : (n m : ℕ) (mark : Bool) → head_byte n m mark / 2 % 4 ≡ 0
byte_zeros n m true = omega arith
byte_zeros n m false = omega arith

byte_mark : (n m : ℕ) (mark : Bool) → eqb (head_byte n m mark % 2) 1 ≡ mark
byte_mark n m true = eq-eqb (head_byte n m true % 2) 1 (omega arith)
byte_mark n m false = ne_eqb (head_byte n m false % 2) 1 (λ e. omega arith)

module _ (n m : ℕ) (mark : Bool) (p : ℕ) (l : List ℕ) (spare : m ≤ 1) where
  abbrev bytes : List ℕ
  bytes = circuit_bytes n m mark p l

  pub same_data : data_wires bytes ≡ n
  unfolding circuit_bytes data_wires
  same_data = byte_data n m mark spare

  pub same_ancillas : ancillas bytes ≡ m
  unfolding circuit_bytes ancillas
  same_ancillas = byte_ancillas n m mark spare

  pub same_wires_law : wires bytes ≡ n + m
  unfolding wires
  same_wires_law = ap₂ (λ (x y : ℕ). x + y) same_data same_ancillas

  pub same_mark : marked bytes ≡ mark
  unfolding circuit_bytes marked
  same_mark = byte_mark n m mark

  pub same_layout : layout_of bytes ≡ p
  unfolding circuit_bytes layout_of
  same_layout = refl

  pub same_gates : gates bytes ≡ l
  unfolding circuit_bytes
  same_gates = refl

  module _ (width : Width n) (laid_out : layout_ok n p ≡ true) (few : length l ≤ 12) (kept : all_of (lawful (pick mark 3 2) (n + m)) l ≡ true)
    where
      shape_kept : shape_ok bytes ≡ true
      unfolding shape_ok circuit_bytes
      shape_kept =
          let three = eqb (data_wires bytes) 3 in
          let four = eqb (data_wires bytes) 4 in
          both_true
          (⊎_elim
          (λ (e : n ≡ 3). either_first three four (eq-eqb (data_wires bytes) 3 (same_data ∙ e)))
          (λ (e : n ≡ 4). either_second three four (eq-eqb (data_wires bytes) 4 (same_data ∙ e)))
          width)
          (both_true
          (le-leb (ancillas bytes) 1 (subst (λ (k : ℕ). k ≤ 1) (sym same_ancillas) spare))
          (eq-eqb (get_or bytes 0 0 / 2 % 4) 0 (byte_zeros n m mark)))

      length_kept : circuit_length_ok bytes ≡ true
      unfolding circuit_length_ok circuit_bytes
      length_kept = both_true (le-leb 3 (length bytes) (omega arith)) (le-leb (length bytes) 15 (omega arith))

      layout_kept : layout_ok (data_wires bytes) (layout_of bytes) ≡ true
      layout_kept = ap₂ layout_ok same_data same_layout ∙ laid_out

      counted : count_byte bytes ≡ length l
      unfolding circuit_bytes count_byte
      counted = refl

      count_kept : count_byte bytes ≡ length bytes - 3
      unfolding circuit_bytes
      count_kept = counted ∙ omega arith

      gates_kept : all_of (lawful (controls_of bytes) (wires bytes)) (gates bytes) ≡ true
      gates_kept = (λ i. all_of (lawful (pick (same_mark i) 3 2) (same_wires_law i)) (same_gates i)) ∙ kept

      -- the record of a sound shape, an allowed layout and at most twelve lawful gates breaks no rule
      pub circuit_kept : circuit_code bytes ≡ 0
      unfolding circuit_code
      circuit_kept =
          rw (
            length_kept,
            shape_kept,
            layout_kept,
            eq-eqb (count_byte bytes) (length bytes - 3) count_kept,
            gates_kept,
          )

-- a sound circuit is the record of its own fields
module _ (c : List ℕ) (sound : circuit_code c ≡ 0) where
  in_order : (circuit_length_ok c ≡ true) × ((shape_ok c ≡ true) × (count_ok c ≡ true))
  unfolding circuit_code
  in_order =
      let k₁ = rule_kept (circuit_length_ok c) 7 _ (lit< tt) sound in
      let k₂ = rule_kept (shape_ok c) 8 _ (lit< tt) k₁.1 in
      let k₃ = rule_kept (layout_in_order c) 9 _ (lit< tt) k₂.1 in
      (k₁.0, (k₂.0, (rule_kept (count_ok c) 10 _ (lit< tt) k₃.1).0))

  zeros : get_or c 0 0 / 2 % 4 ≡ 0
  unfolding shape_ok
  zeros =
      let d = either (eqb (data_wires c) 3) (eqb (data_wires c) 4) in
      let m = leb (ancillas c) 1 in
      let z = eqb (get_or c 0 0 / 2 % 4) 0 in
      eqb-true (get_or c 0 0 / 2 % 4) 0 (both_right m z (both_right d (both m z) in_order.1.0))

  -- the mark as the number that the byte holds
  mark_bit : (x : ℕ) → x < 2 → bit (eqb x 1) ≡ x
  mark_bit zero h = refl
  mark_bit (suc zero) h = refl
  mark_bit (suc (suc x)) h = absurd (omega arith)

  pub rebuilt : circuit_bytes (data_wires c) (ancillas c) (marked c) (layout_of c) (gates c) ≡ c
  unfolding circuit_bytes data_wires ancillas marked layout_of count_byte
  rebuilt =
      let l = long_enough c in_order.0 in
      let n : length (gates c) ≡ get_or c 2 0 = omega (arith, length-drop 3 c, eqb-true (count_byte c) (length c - 3) in_order.1.1) in
      let b : 32 * (get_or c 0 0 / 32) + 8 * (get_or c 0 0 / 8 % 4) + bit (eqb (get_or c 0 0 % 2) 1) ≡ get_or c 0 0
      = ap (λ (x : ℕ). 32 * (get_or c 0 0 / 32) + 8 * (get_or c 0 0 / 8 % 4) + x) (mark_bit (get_or c 0 0 % 2) (omega arith)) ∙ omega (arith, zeros) in
      sym (drop-cons c 0 0 (omega arith) ∙ ap (λ (r : List ℕ). get_or c 0 0 ∷ r)
      (drop-cons c 1 0 (omega arith) ∙ ap (λ (r : List ℕ). get_or c 1 0 ∷ r) (drop-cons c 2 0 (omega arith)))
      ∙ ap₂ (λ (x y : ℕ). x ∷ get_or c 1 0 ∷ y ∷ drop 3 c) (sym b) (sym n))
