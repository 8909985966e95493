-- How a text begins: by the library's `starts_with`, and by one word after another.
use Rattle.std.proofs.Common.{◌≡◌, refl, sym, ap, ◌∙◌, Bool, true, false, ◌&&◌, List, [], ◌∷◌, ◌++◌, ℕ, suc, ◌+◌, ◌<◌, ◌≤◌, length, get_or, drop, eqb, nat_eq, arith}
use Rattle.std.specs.List.{starts_with}
use lib.Seq.{drop-cons}
use lib.ListN.{drop_of_length-le}
use native.Mathlib.Numerals.{add-one}
use Rattle.logic.specs.Rules.{both}
use Rattle.logic.specs.Words.{bytes}
use Rattle.revlib.specs.Grammar.{spaced, gate_line}
use Rattle.revlib.specs.Reading.{starts}
use Rattle.revlib_reader.specs.keywords.Words.{letters_line}

and_both : (a b : Bool) → (a && b) ≡ both a b
and_both true b = refl
and_both false b = refl

eqb_turned : (a b : ℕ) → eqb a b ≡ eqb b a
eqb_turned a b = grind arith

-- the library's test is that of the documents
pub begins : (word s : List ℕ) → starts_with nat_eq s word ≡ starts word s
unfolding starts
begins [] s = refl
begins (x ∷ word) [] = refl
begins (x ∷ word) (y ∷ s) = and_both (eqb x y) (starts_with nat_eq s word) ∙ rw (eqb_turned x y) (ap (both (eqb y x)) (begins word s))

both_both : (a b c : Bool) → both (both a b) c ≡ both a (both b c)
both_both true b c = refl
both_both false b c = refl

-- a text begins with two words exactly when it begins with the first, and then goes on with the second
pub pieces : (a b s : List ℕ) → starts (a ++ b) s ≡ both (starts a s) (starts b (drop (length a) s))
unfolding starts
pieces [] b s = refl
pieces (x ∷ a) b [] = refl
pieces (x ∷ a) b (y ∷ s) = ap (both (eqb y x)) (pieces a b s) ∙ sym (both_both (eqb y x) (starts a s) (starts b (drop (length a) s)))

-- one letter of a line, and those after it
pub letter_turn : (ls : List ℕ) (i : ℕ) (s : List ℕ) → i < length ls
    → starts (letters_line (drop i ls)) s ≡ both (starts (32 ∷ get_or ls i 0 ∷ []) s) (starts (letters_line (drop (i + 1) ls)) (drop 2 s))
unfolding letters_line spaced
letter_turn ls i s more = rw (add-one, drop-cons ls i 0 more) (pieces (32 ∷ get_or ls i 0 ∷ []) (spaced (drop (suc i) ls) ++ bytes "\n") s)

pub letters_done : (ls : List ℕ) (i : ℕ) → length ls ≤ i → letters_line (drop i ls) ≡ bytes "\n"
unfolding letters_line spaced
letters_done ls i h = rw (drop_of_length-le ls h)

pub line_pieces : (line s : List ℕ) → starts (gate_line line) s ≡ both (starts (116 ∷ (48 + length line) ∷ []) s) (starts (letters_line line) (drop 2 s))
unfolding gate_line letters_line
line_pieces line s = pieces (116 ∷ (48 + length line) ∷ []) (spaced line ++ bytes "\n") s
