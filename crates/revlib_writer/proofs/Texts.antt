-- The text of a circuit as heading and body, and what `write_real` answers.
use mathlib.Core.Path.{◌≡◌, refl, sym, ap, ◌∙◌}
use mathlib.Core.Bool.{true}
use mathlib.Core.List.{List, map, ◌++◌}
use Prim.Native.Nat.{ℕ, ◌+◌, ◌≤◌}
use native.Mathlib.Omega.{arith}
use borrow.Author.Tests.{le-leb}
use lib.ListN.{length, length-append}
use Rattle.logic.specs.Lists.{all_of}
use Rattle.gate.specs.Gates.{lawful}
use Rattle.gate.proofs.Tables.{all_widen}
use Rattle.record.specs.job_fields.Jobs.{data_wires, ancillas, wires}
use Rattle.record.specs.circuit_rules.CircuitRules.{circuit_code}
use Rattle.record.specs.circuit_fields.Circuits.{gates}
use Rattle.record.proofs.circuit_rules.Sound.{sound_circuit, circuit_wires_within}
use Rattle.text.specs.pieces.Writing.{Wrote}
use Rattle.text.proofs.pieces.Pieces.{line_in_front}
use Rattle.revlib_writer.proofs.gates.Lines.{over_length}
use Rattle.revlib.specs.Grammar.{body, render}
use Rattle.revlib.specs.Writing.{line_for, describe, text_of, text_code, write_of, filled}
use Rattle.revlib.proofs.RoundTrip.{text_rules, lawful_gates, text_short}
use Rattle.revlib_writer.specs.heading.Heading.{heading_for}

module _ (c : List ℕ) where
  pub text_parts : heading_for (data_wires c) (ancillas c) ++ body (map line_for (gates c)) ≡ text_of c
  unfolding text_of render describe heading_for wires
  text_parts = refl

  pub text_length : length (text_of c) ≡ length (heading_for (data_wires c) (ancillas c)) + length (body (map line_for (gates c)))
  text_length = ap length (sym text_parts) ∙ length-append (heading_for (data_wires c) (ancillas c)) (body (map line_for (gates c)))

  -- what the rules of a text give
  pub code_sound : text_code c ≡ 0 → circuit_code c ≡ 0
  code_sound h = (text_rules c h).0

  pub lawful_five : text_code c ≡ 0 → all_of (lawful 2 5) (gates c) ≡ true
  lawful_five h =
      let p = text_rules c h in
      all_widen 2 (wires c) 2 5 (omega arith) (circuit_wires_within c p.0).1 (gates c) (lawful_gates c p.0 p.1.0)

  pub text_small : text_code c ≡ 0 → length (text_of c) ≤ 193
  text_small h = let p = text_rules c h in text_short c p.0 p.1.0

  -- the text stands at the start of the buffer
  module _ (out : List ℕ) (kept : text_code c ≡ 0) (h : length (text_of c) ≤ length out) (new : List ℕ) (size : ℕ) (w : Wrote out 0 (text_of c) new size) where
    pub wrote : new ≡ filled (write_of c (length out)) out
    unfolding write_of
    wrote = line_in_front w h ∙ rw (kept, le-leb (length (text_of c)) (length out) h)

-- a circuit that has a text is sound, and its text short
pub ruleset texts = (code_sound, text_small)

-- what a text that is written stands on
pub ruleset written = (sound_circuit, code_sound, lawful_five, text_length, over_length)
