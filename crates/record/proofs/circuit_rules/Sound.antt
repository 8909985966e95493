-- What a sound circuit is known to have, rule by rule. Bytes that are longer than any circuit break the first rule.
use mathlib.Core.Path.{◌≡◌, refl}
use mathlib.Core.Bool.{true, false}
use mathlib.Core.Logic.{inl, inr, ⊎_elim}
use mathlib.Core.List.{List}
use Prim.Native.Nat.{ℕ, ◌/◌, ◌%◌, ◌≤◌, ◌<◌}
use native.Mathlib.Omega.{arith}
use borrow.Author.Tests.{eqb-true, leb-true, lt-leb}
use lib.Dec.{eqb, leb, lit<}
use lib.ListN.{length, get_or, length-drop}
use Rattle.logic.specs.Rules.{both, either}
use Rattle.logic.specs.Lists.{all_of}
use Rattle.logic.proofs.Chain.{both_left, both_right, either_cases, rule_kept, both_second}
use Rattle.gate.specs.Gates.{lawful}
use Rattle.gate.proofs.Tables.{all_widen}
use Rattle.table.specs.layouts.Layouts.{Width, layout_ok}
use Rattle.record.specs.job_fields.Jobs.{data_wires, ancillas, wires}
use Rattle.record.specs.circuit_rules.CircuitRules.{circuit_length_ok, shape_ok, layout_in_order, count_ok, gates_ok, circuit_code}
use Rattle.record.specs.circuit_fields.Circuits.{marked, controls_of, layout_of, gates}
use Rattle.record.proofs.job_fields.Widths.{two_or_three, three_to_five}

pub record SoundCircuit (c : List ℕ) : Type 0 where
  pub width : Width (data_wires c)
  pub spare : ancillas c ≤ 1
  pub laid_out : layout_ok (data_wires c) (layout_of c) ≡ true
  pub few : length (gates c) ≤ 12
  pub kept : all_of (lawful (controls_of c) (wires c)) (gates c) ≡ true

module _ (c : List ℕ) where
  pub long_enough : circuit_length_ok c ≡ true → 3 ≤ length c
  unfolding circuit_length_ok
  long_enough h = leb-true 3 (length c) (both_left (leb 3 (length c)) (leb (length c) 15) h)

  pub short_enough : circuit_length_ok c ≡ true → length c ≤ 15
  unfolding circuit_length_ok
  short_enough h = leb-true (length c) 15 (both_right (leb 3 (length c)) (leb (length c) 15) h)

  pub data_cases : shape_ok c ≡ true → Width (data_wires c)
  unfolding shape_ok
  data_cases h =
      let d = either (eqb (data_wires c) 3) (eqb (data_wires c) 4) in
      ⊎_elim (λ e. inl (eqb-true (data_wires c) 3 e)) (λ e. inr (eqb-true (data_wires c) 4 e))
      (either_cases (eqb (data_wires c) 3) (eqb (data_wires c) 4) (both_left d (both (leb (ancillas c) 1) (eqb (get_or c 0 0 / 2 % 4) 0)) h))

  -- what the rules on the length and on byte 0 say for the rules that follow them
  pub ruleset first_rules = (long_enough, data_cases)

  pub sound_circuit : circuit_code c ≡ 0 → SoundCircuit c
  unfolding circuit_code shape_ok
  sound_circuit h =
      let k₁ = rule_kept (circuit_length_ok c) 7 _ (lit< tt) h in
      let k₂ = rule_kept (shape_ok c) 8 _ (lit< tt) k₁.1 in
      let k₃ = rule_kept (layout_in_order c) 9 _ (lit< tt) k₂.1 in
      let k₄ = rule_kept (count_ok c) 10 _ (lit< tt) k₃.1 in
      let k₅ = rule_kept (gates_ok c) 21 0 (lit< tt) k₄.1 in
      let d = either (eqb (data_wires c) 3) (eqb (data_wires c) 4) in
      let m = leb (ancillas c) 1 in
      record {
        width = data_cases k₂.0;
        spare = leb-true (ancillas c) 1 (both_left m (eqb (get_or c 0 0 / 2 % 4) 0) (both_right d (both m (eqb (get_or c 0 0 / 2 % 4) 0)) k₂.0));
        laid_out = k₃.0;
        few = omega (arith, short_enough k₁.0, length-drop 3 c);
        kept = k₅.0;
      }

-- the gates of a sound circuit have at most three controls
pub three_kept : (c : List ℕ) → SoundCircuit c → all_of (lawful 3 (wires c)) (gates c) ≡ true
three_kept c s = all_widen (controls_of c) (wires c) 3 (wires c) (two_or_three (marked c)).1 (omega arith) (gates c) s.kept

pub circuit_wires_within : (c : List ℕ) → circuit_code c ≡ 0 → (3 ≤ wires c) × (wires c ≤ 5)
circuit_wires_within c h = let s = sound_circuit c h in three_to_five c s.width s.spare

pub long_circuit : (circuit : List ℕ) → 15 < length circuit → circuit_code circuit ≡ 7
unfolding circuit_code circuit_length_ok
long_circuit circuit h = rw (lt-leb (length circuit) 15 h, both_second (leb 3 (length circuit)) false refl)
