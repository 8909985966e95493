-- Writing and reading: the text of a circuit is read as that circuit.
use mathlib.Core.Path.{◌≡◌, refl, sym, ap, ap₂, ◌∙◌}
use mathlib.Core.Bool.{Bool, true, false, not}
use mathlib.Core.Logic.{inl, inr}
use mathlib.Core.List.{List, [], ◌∷◌, map}
use Prim.Native.Nat.{ℕ, zero, suc, ◌+◌, ◌*◌, ◌≤◌}
use native.Mathlib.Decide.{ℕ_discrete}
use native.Mathlib.Omega.{arith}
use borrow.Author.Tests.{eqb-true, eq-eqb, ne_eqb, not-true}
use lib.Count.{ones, ones_in, count_trailing_zeros, count_leading_zeros}
use lib.Dec.{eqb, leb, lit<}
use lib.ListN.{length, length-append, length-map}
use Rattle.logic.specs.Rules.{both, implies, pick, rule, all_below}
use Rattle.logic.specs.Lists.{all_of}
use Rattle.logic.specs.Answers.{answered}
use Rattle.logic.proofs.Chain.{both_parts, both_true, implied, rule_kept, and_then_zero}
use Rattle.logic.proofs.Below.{below}
use Rattle.gate.specs.Gates.{lawful, gate_of}
use Rattle.gate.proofs.Widen.{lawful_lt}
use Rattle.table.specs.layouts.Layouts.{Width, plain}
use Rattle.record.specs.job_fields.Jobs.{data_wires, ancillas, wires}
use Rattle.record.specs.circuit_rules.CircuitRules.{circuit_code}
use Rattle.record.specs.circuit_fields.Circuits.{marked, layout_of, gates}
use Rattle.record.proofs.circuit_rules.Sound.{sound_circuit, circuit_wires_within}
use Rattle.record.proofs.circuit_rules.Written.{rebuilt}
use Rattle.revlib.specs.Grammar.{ancilla_count, spaced, numvars_line, variables_line, constants_line, constants_word, heading, gate_line, body, render, is_in, different, lower_case, data_count, heading_ok, line_ok, well_formed, wire_of, gate_byte, record_of}
use Rattle.revlib.specs.Reading.{read_of}
use Rattle.revlib.specs.Writing.{Reply, line_for, letters_for, constants_for, describe, text_of, text_code, write_of}
use Rattle.revlib.proofs.Exact.{line_count, line_length}
use Rattle.revlib.proofs.Promises.{accepted}

-- the line of a lawful gate is in order and gives the gate back: computed
abbrev told : ℕ → ℕ → Bool
told w b = implies (lawful 2 w b) (both (line_ok (letters_for w) (line_for b)) (eqb (gate_byte (letters_for w) (line_for b)) b))

abbrev all_told : ℕ → Bool
all_told w = all_below 160 (told w)

every_told : all_below 6 all_told ≡ true
unfolding lawful gate_of ones ones_in count_trailing_zeros count_leading_zeros letters_for line_for line_ok different is_in all_of gate_byte wire_of
every_told = refl

module _ (w : ℕ) (few : w ≤ 5) where
  line_told : (b : ℕ) → lawful 2 w b ≡ true → (line_ok (letters_for w) (line_for b) ≡ true) × (gate_byte (letters_for w) (line_for b) ≡ b)
  line_told b h =
      let ok = line_ok (letters_for w) (line_for b) in
      let same = eqb (gate_byte (letters_for w) (line_for b)) b in
      let p = both_parts ok same (implied (lawful 2 w b) (both ok same) (below 160 (told w) (below 6 all_told every_told w (omega arith)) b (lawful_lt 2 w b few h)) h) in
      (p.0, eqb-true (gate_byte (letters_for w) (line_for b)) b p.1)

  lines_ok : (gs : List ℕ) → all_of (lawful 2 w) gs ≡ true → all_of (line_ok (letters_for w)) (map line_for gs) ≡ true
  unfolding all_of
  lines_ok [] h = refl
  lines_ok (b ∷ gs) h = let p = both_parts (lawful 2 w b) (all_of (lawful 2 w) gs) h in both_true (line_told b p.0).0 (lines_ok gs p.1)

  gates_back : (gs : List ℕ) → all_of (lawful 2 w) gs ≡ true → map (gate_byte (letters_for w)) (map line_for gs) ≡ gs
  unfolding all_of
  gates_back [] h = refl
  gates_back (b ∷ gs) h =
      let p = both_parts (lawful 2 w b) (all_of (lawful 2 w) gs) h in
      ap₂ (λ (x : ℕ) (l : List ℕ). x ∷ l) (line_told b p.0).1 (gates_back gs p.1)

  body_length : (gs : List ℕ) → all_of (lawful 2 w) gs ≡ true → length (body (map line_for gs)) ≤ 5 + 9 * length gs
  unfolding all_of body
  body_length [] h = omega arith
  body_length (b ∷ gs) h =
      let p = both_parts (lawful 2 w b) (all_of (lawful 2 w) gs) h in
      let k = line_count (letters_for w) (line_for b) (line_told b p.0).0 in
      omega (arith, length-append (gate_line (line_for b)) (body (map line_for gs)), line_length (line_for b), body_length gs p.1)

-- the four headings are in order, give n and m back, and have at most 80 bytes
heading_facts : (n m : ℕ) → Width n → m ≤ 1
    → (heading_ok (letters_for (n + m)) (constants_for m) ≡ true)
    × ((data_count (letters_for (n + m)) (constants_for m) ≡ n)
    × ((ancilla_count (constants_for m) ≡ m) × (length (heading (letters_for (n + m)) (constants_for m)) ≤ 80)))
unfolding heading_ok data_count letters_for constants_for different is_in all_of lower_case heading numvars_line variables_line spaced constants_line constants_word
heading_facts n zero (inl e) h = rw e (refl, (refl, (refl, omega arith)))
heading_facts n (suc zero) (inl e) h = rw e (refl, (refl, (refl, omega arith)))
heading_facts n zero (inr e) h = rw e (refl, (refl, (refl, omega arith)))
heading_facts n (suc zero) (inr e) h = rw e (refl, (refl, (refl, omega arith)))
heading_facts n (suc (suc m)) w h = absurd (omega arith)

-- a circuit that has a text is sound and unmarked and has the plain layout
pub text_rules : (c : List ℕ) → text_code c ≡ 0
    → (circuit_code c ≡ 0) × ((marked c ≡ false) × (layout_of c ≡ plain (data_wires c)))
unfolding text_code
text_rules c h =
    let laid = eqb (layout_of c) (plain (data_wires c)) in
    let p = and_then_zero (circuit_code c) (rule (not (marked c)) 8 (rule laid 15 0)) h in
    let k = rule_kept (not (marked c)) 8 (rule laid 15 0) (lit< tt) p.1 in (
      p.0,
      (not-true (marked c) k.0, eqb-true (layout_of c) (plain (data_wires c)) (rule_kept laid 15 0 (lit< tt) k.1).0),
    )

-- a sound, unmarked circuit with plain layout
module _ (c : List ℕ) (sound : circuit_code c ≡ 0) (unmarked : marked c ≡ false) where
  facts : (heading_ok (letters_for (wires c)) (constants_for (ancillas c)) ≡ true)
      × ((data_count (letters_for (wires c)) (constants_for (ancillas c)) ≡ data_wires c)
      × ((ancilla_count (constants_for (ancillas c)) ≡ ancillas c) × (length (heading (letters_for (wires c)) (constants_for (ancillas c))) ≤ 80)))
  unfolding wires
  facts = let s = sound_circuit c sound in heading_facts (data_wires c) (ancillas c) s.width s.spare

  few_wires : wires c ≤ 5
  few_wires = (circuit_wires_within c sound).1

  pub lawful_gates : all_of (lawful 2 (wires c)) (gates c) ≡ true
  lawful_gates = rw unmarked at (sound_circuit c sound).kept

  well : well_formed (describe c) ≡ true
  unfolding well_formed describe
  well = both_true facts.0 (lines_ok (wires c) few_wires (gates c) lawful_gates)

  -- the length of its text: at most 80 bytes of heading, nine bytes a gate, and five of `.end`
  pub text_short : length (text_of c) ≤ 193
  unfolding text_of render describe
  text_short =
      let k = (sound_circuit c sound).few in
      omega (
        arith,
        length-append (heading (letters_for (wires c)) (constants_for (ancillas c))) (body (map line_for (gates c))),
        facts.1.1.1,
        body_length (wires c) few_wires (gates c) lawful_gates,
      )

  same_record : layout_of c ≡ plain (data_wires c) → record_of (describe c) ≡ c
  unfolding record_of describe
  same_record e =
      rw (facts.1.0, facts.1.1.0, gates_back (wires c) few_wires (gates c) lawful_gates, ← e) (rw unmarked at (rebuilt c sound))

  -- reading what was written gives the record back
  pub round_trip : layout_of c ≡ plain (data_wires c) → (room : ℕ) → 15 ≤ room → read_of (text_of c) room ≡ answered c
  unfolding text_of describe
  round_trip e room wide =
      let k = (sound_circuit c sound).few in
      (accepted (text_of c) room wide c).1
      (describe c, (record { well = well; rendered = refl; short = omega (arith, text_short) }, (rw (length-map (gates c) line_for) k, same_record e)))

-- the round trip for the calls: whatever text `write_real` writes is read as the circuit
pub written_read : (c : List ℕ) (room : ℕ) (text : List ℕ) → write_of c room ≡ Reply.answered text → (wide : ℕ) → 15 ≤ wide → read_of text wide ≡ answered c
unfolding write_of
written_read c room text h wide k = by_code (ℕ_discrete (text_code c) 0)
  where
    by_size : text_code c ≡ 0 → (t : Bool) → leb (length (text_of c)) room ≡ t → pick t (Reply.answered (text_of c)) (Reply.short 13 (length (text_of c))) ≡ Reply.answered text
        → read_of text wide ≡ answered c
    by_size z true e w =
        let same : text_of c ≡ text = cc in
        let p = text_rules c z in
        ap (λ (l : List ℕ). read_of l wide) (sym same) ∙ round_trip c p.0 p.1.0 p.1.1 wide k
    by_size z false e w = let n : ◌≡◌ {A = ℕ} 0 1 = cc in absurd (omega arith)

    by_code : Dec (text_code c ≡ 0) → read_of text wide ≡ answered c
    by_code (yes z) = by_size z (leb (length (text_of c)) room) refl (rw (eq-eqb (text_code c) 0 z) at h)
    by_code (no n) = let w = rw (ne_eqb (text_code c) 0 n) at h in let z : ◌≡◌ {A = ℕ} 0 1 = cc in absurd (omega arith)
