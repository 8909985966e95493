-- From heading and body to the answer of the call.
use Rattle.std.proofs.Common.{◌≡◌, ◌∙◌, false, List, ◌++◌, ℕ, ◌-◌, ◌≤◌, ◌<◌, length, take, drop, Some, None, Result, Ok, Err, arith}
use Rattle.std.specs.Result.{result_ok}
use Rattle.std.proofs.Math.Option as maths
use borrow.Author.Tests.{le-leb, lt-leb}
use Rattle.logic.specs.Answers.{Answer, refused, answered}
use Rattle.logic.proofs.Chain.{both_left}
use Rattle.table.specs.layouts.Layouts.{plain}
use Rattle.record.specs.circuit_fields.Circuits.{circuit_bytes}
use Rattle.revlib.specs.Grammar.{data_count, heading, heading_ok, record_of}
use Rattle.revlib.specs.Reading.{starts, lines_at, names_at, constants_in, heading_here, described, rest_of, parse, outcome_of, size_of, written}
use Rattle.revlib.proofs.Exact.{name_count}
use Rattle.revlib.proofs.Sound.{ancilla_few}
use Rattle.revlib_reader.specs.declared.reader.Body.{Body}
use Rattle.revlib_reader.specs.declared.heading.Heading.{Heading}
use Rattle.revlib_reader.specs.heading.Heading.{HeadingIs}
use Rattle.revlib_reader.specs.declared.reader.Departure.{Departure}
use Rattle.revlib_reader.specs.declared.reader.Text.{Text}
use Rattle.revlib_reader.specs.reader.Steps.{letters_of, LinesAre, TextIs}

module _ (text : List ℕ) where
  pub no_heading : heading_here text ≡ false → parse text ≡ maths.none
  unfolding parse
  no_heading e = rw e

  module _ (h : Heading) (is : HeadingIs text h) where
    pub spare_few : h.ancillas ≤ 1
    spare_few = rw is.spare (ancilla_few (constants_in text))

    -- three to five wires
    pub wires_are : (3 ≤ length (names_at text)) × (length (names_at text) ≤ 5)
    unfolding heading_here
    wires_are =
        name_count (names_at text) (constants_in text)
        (both_left (heading_ok (names_at text) (constants_in text)) (starts (heading (names_at text) (constants_in text)) text) is.sound)

    parsed : parse text ≡ described (names_at text) (constants_in text) (lines_at (letters_of h) 0 (drop h.end text))
    unfolding parse rest_of
    parsed = rw (is.sound, is.names, is.end)

    pub no_body : lines_at (letters_of h) 0 (drop h.end text) ≡ maths.none → parse text ≡ maths.none
    no_body e = parsed ∙ rw e

    module _ (b : Body) (lines : LinesAre (letters_of h) (lines_at (letters_of h) 0 (drop h.end text)) b) where
      pub crowded : 12 < b.count → outcome_of (parse text) ≡ refused 23
      crowded m = let n = lines.counted in rw (parsed, lines.are, lt-leb (length lines.read) 12 (omega arith))

      pub taken : b.count ≤ 12 → length (letters_of h) ≡ h.wires
          → outcome_of (parse text) ≡ answered (circuit_bytes (h.wires - h.ancillas) h.ancillas false (plain (h.wires - h.ancillas)) (take b.count b.gates))
      unfolding record_of data_count
      taken m w =
          let n = lines.counted in
          let k : data_count (names_at text) (constants_in text) ≡ h.wires - h.ancillas = rw (is.spare, ← w, is.names) in
          rw (parsed, lines.are, le-leb (length lines.read) 12 (omega arith), lines.kept m, ← is.names, ← is.spare, w)

-- a text that departs from the form describes no circuit, wherever it departs
pub departed : (text : List ℕ) (r : Result Text Departure) → TextIs text r → length text ≤ 4096 → result_ok r ≡ None → parse text ≡ maths.none
departed text (Ok t) is m e = cc
departed text (Err (Departure.Heading h)) is m e = is.1
departed text (Err (Departure.Body h)) is m e = (is.1 m).1

-- a text that is in order, as it was read
pub in_order : (text : List ℕ) (r : Result Text Departure) (t : Text) → TextIs text r → result_ok r ≡ Some t → TextIs text (Ok t)
in_order text (Ok u) t is e = let same : u ≡ t = cc in rw (← same) is
in_order text (Err (Departure.Heading h)) t is e = cc
in_order text (Err (Departure.Body h)) t is e = cc

-- a record that is answered is written, and its length returned
module _ {o : Answer (List ℕ)} {bytes : List ℕ} (found : o ≡ answered bytes) (k : ℕ) (sized : k ≡ length bytes) where
  pub told : answered k ≡ size_of o
  told = rw (found, sized)

  pub wrote : (answer out : List ℕ) → out ≡ bytes ++ drop k answer → out ≡ written o answer
  wrote answer out e = e ∙ rw (found, sized)
