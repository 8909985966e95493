-- The line of a gate by its kind, the body as the sum of its lines, and what is still owed of a text that is written piece by piece.
use Rattle.std.proofs.Common.{◌≡◌, refl, sym, ap, ap₂, ◌∙◌, Bool, true, false, List, [], ◌∷◌, ◌++◌, map, sum_by, ℕ, zero, suc, ◌+◌, ◌*◌, ◌≤◌, ◌<◌, length, length-append, get_or, drop, ltb, arith}
use Rattle.std.proofs.lemmas.List.Sums.{sum_by-cons}
use mathlib.Core.Bool.{false≢true}
use native.Mathlib.Numerals.{add-one}
use borrow.Author.Tests.{ltb-true}
use lib.Count.{ones}
use lib.ListN.{drop_of_length-le}
use lib.Seq.{drop-cons, length-sets}
use Rattle.logic.specs.Words.{bytes}
use Rattle.logic.proofs.Chain.{both_left, both_right}
use Rattle.gate.specs.declared.Gate.{Gate}
use Rattle.gate.specs.declared.Kind.{Kind}
use Rattle.gate.specs.declared.Kind.TheVariants.{Not, Cnot, Toffoli, Cccnot}
use Rattle.gate.specs.Gates.{lawful, mask_of, kind_for, gate_of}
use Rattle.gate.proofs.Widen.{parts, widen}
use Rattle.gate.proofs.Published.{wires_inside}
use Rattle.text.specs.pieces.Writing.{over, Wrote}
use Rattle.text.proofs.pieces.Pieces.{over_append}
use Rattle.revlib.specs.Grammar.{spaced, gate_line, body}
use Rattle.revlib.specs.Writing.{letter, control_wires, line_for}
use Rattle.revlib.proofs.Exact.{spaced_length}

abbrev three_controls : Kind → Bool
three_controls Not = false
three_controls (Cnot a) = false
three_controls (Toffoli a d) = false
three_controls (Cccnot a d f) = true

few_controls : (n m : ℕ) → n ≤ 2 → three_controls (kind_for n m) ≡ false
few_controls zero m h = refl
few_controls (suc zero) m h = refl
few_controls (suc (suc zero)) m h = refl
few_controls (suc (suc (suc n))) m h = absurd (omega arith)

-- the letters of a gate's line, by its kind
module _ (b : ℕ) (g : Gate) (is : g ≡ gate_of b) where
  pub letters_not : g.kind ≡ Not → (97 + g.target) ∷ [] ≡ line_for b
  unfolding line_for
  letters_not e = rw (← is, e)

  pub letters_cnot : (a : ℕ) → g.kind ≡ Cnot a → (97 + a) ∷ (97 + g.target) ∷ [] ≡ line_for b
  unfolding line_for
  letters_cnot a e = rw (← is, e)

  pub letters_toffoli : (a d : ℕ) → g.kind ≡ Toffoli a d → (97 + a) ∷ (97 + d) ∷ (97 + g.target) ∷ [] ≡ line_for b
  unfolding line_for
  letters_toffoli a d e = rw (← is, e)

  pub letters_cccnot : (a d f : ℕ) → g.kind ≡ Cccnot a d f → (97 + a) ∷ (97 + d) ∷ (97 + f) ∷ (97 + g.target) ∷ [] ≡ line_for b
  unfolding line_for
  letters_cccnot a d f e = rw (← is, e)

  -- the wires of a lawful gate
  module _ (h : lawful 2 5 b ≡ true) where
    pub target_lt : g.target < 5
    unfolding gate_of
    target_lt = rw is (parts 2 5 b h).target

    pub cnot_lt : (a : ℕ) → g.kind ≡ Cnot a → a < 5
    cnot_lt a e = ltb-true a 5 (rw (← is, e) at (wires_inside b (widen 2 5 3 5 b (omega arith) (omega arith) h)))

    pub toffoli_lt : (a d : ℕ) → g.kind ≡ Toffoli a d → (a < 5) × (d < 5)
    toffoli_lt a d e =
        let i = rw (← is, e) at (wires_inside b (widen 2 5 3 5 b (omega arith) (omega arith) h)) in
        (ltb-true a 5 (both_left (ltb a 5) (ltb d 5) i), ltb-true d 5 (both_right (ltb a 5) (ltb d 5) i))

    -- its kind is not CCCNOT
    pub no_cccnot : (a d f : ℕ) → g.kind ≡ Cccnot a d f → ⊥
    unfolding gate_of
    no_cccnot a d f e =
        false≢true (sym (few_controls (ones (mask_of b)) (mask_of b) (parts 2 5 b h).few) ∙ ap three_controls (rw is at e))

pub gate_line_size : (l : List ℕ) → length (gate_line l) ≡ 3 + 2 * length l
unfolding gate_line
gate_line_size l = omega (arith, length-append (spaced l) (bytes "\n"), spaced_length l)

-- the length of a body is that of its lines and `.end`
pub body_sum : (gates : List ℕ) → length (body (map line_for gates)) ≡ 5 + sum_by (λ b. length (gate_line (line_for b))) gates
unfolding body
body_sum [] = refl
body_sum (b ∷ gates) =
    omega (
      arith,
      length-append (gate_line (line_for b)) (body (map line_for gates)),
      body_sum gates,
      sum_by-cons (λ b. length (gate_line (line_for b))) b gates,
    )

-- a line has at most four letters
controls_few : (k : Kind) (t : ℕ) → length (map letter (control_wires k ++ (t ∷ []))) ≤ 4
controls_few Not t = omega arith
controls_few (Cnot a) t = omega arith
controls_few (Toffoli a d) t = omega arith
controls_few (Cccnot a d f) t = omega arith

line_few : (b : ℕ) → length (gate_line (line_for b)) ≤ 11
unfolding line_for
line_few b = omega (arith, gate_line_size (line_for b), controls_few (gate_of b).kind (gate_of b).target)

pub lines_few : (gates : List ℕ) → sum_by (λ b. length (gate_line (line_for b))) gates ≤ 11 * length gates
lines_few [] = omega arith
lines_few (b ∷ gates) = omega (arith, sum_by-cons (λ b. length (gate_line (line_for b))) b gates, line_few b, lines_few gates)

pub ruleset sizes = (body_sum, lines_few)

-- the lines from place k on
module _ (gates : List ℕ) (k : ℕ) where
  pub body_next : k < length gates
      → body (map line_for (drop k gates)) ≡ gate_line (line_for (get_or gates k 0)) ++ body (map line_for (drop (k + 1) gates))
  unfolding body
  body_next h = rw (add-one, drop-cons gates k 0 h)

  pub body_last : length gates ≤ k → body (map line_for (drop k gates)) ≡ bytes ".end\n"
  unfolding body
  body_last h = rw (drop_of_length-le gates h)

pub letters_first : (letters : List ℕ) → gate_line letters ≡ (116 ∷ (48 + length letters) ∷ []) ++ (spaced letters ++ bytes "\n")
unfolding gate_line
letters_first letters = refl

-- the letters from place k on
module _ (letters : List ℕ) (k : ℕ) where
  pub letters_next : k < length letters
      → spaced (drop k letters) ++ bytes "\n" ≡ (32 ∷ get_or letters k 0 ∷ []) ++ (spaced (drop (k + 1) letters) ++ bytes "\n")
  unfolding spaced
  letters_next h = rw (add-one, drop-cons letters k 0 h)

  pub letters_last : length letters ≤ k → spaced (drop k letters) ++ bytes "\n" ≡ bytes "\n"
  unfolding spaced
  letters_last h = rw (drop_of_length-le letters h)

pub over_length : (out : List ℕ) (i : ℕ) (text : List ℕ) → length (over out i text) ≡ length out
unfolding over
over_length out i text = length-sets out i text

-- of a whole text laid over a buffer from index i on, the rest is still to be laid over what the buffer holds now, from index `at` on
pub record Owed (old : List ℕ) (i : ℕ) (whole out : List ℕ) (at : ℕ) (rest : List ℕ) : Type 0 where
  pub kept : length out ≡ length old
  pub size : at + length rest ≡ i + length whole
  pub laid : over out at rest ≡ over old i whole

module _ {old whole : List ℕ} {i : ℕ} where
  pub owed_all : Owed old i whole old i whole
  owed_all = record { kept = refl; size = refl; laid = refl }

  module _ {out rest piece new : List ℕ} {at next : ℕ} (o : Owed old i whole out at rest) (w : Wrote out at piece new next) where
    written : length new ≡ length old
    written = ap length w.bytes ∙ over_length out at piece ∙ o.kept

    -- a piece less
    pub owed_less : (left : List ℕ) → rest ≡ piece ++ left → Owed old i whole new next left
    owed_less left e =
        record {
          kept = written;
          size = omega (arith, o.size, w.size, length-append piece left, ap length e);
          laid = ap₂ (λ (m : List ℕ) (k : ℕ). over m k left) w.bytes w.size ∙ over_append piece left out at ∙ ap (over out at) (sym e) ∙ o.laid;
        }

    -- the last piece
    pub owed_none : rest ≡ piece → Wrote old i whole new next
    owed_none e = record { bytes = w.bytes ∙ ap (over out at) (sym e) ∙ o.laid; size = omega (arith, o.size, w.size, ap length e) }

  -- there is room for what is owed
  pub owed_room : {out rest : List ℕ} {at : ℕ} → Owed old i whole out at rest → i + length whole ≤ length old → at + length rest ≤ length out
  owed_room o h = omega (arith, o.size, o.kept)
