-- A heading as the sequence of its parts.
use Rattle.std.proofs.Common.{◌≡◌, refl, sym, ap, ap₂, ◌∙◌, Bool, true, false, inl, inr, ⊎_elim, List, [], ◌∷◌, ◌++◌, append_assoc, ℕ, zero, suc, ◌+◌, ◌-◌, ◌*◌, ◌≤◌, min, eqb, get_or, take, drop, length, length-append, length-take, Result, Ok, Err, arith}
use Rattle.std.specs.Result.{result_ok}
use lib.ListN.{length-replicate, take-append-drop}
use lib.Seq.{drop-drop, take-append_seam}
use borrow.Author.Tests.{eqb-true}
use Rattle.std.specs.Bool.{then_some}
use Rattle.logic.specs.Rules.{both, either}
use Rattle.logic.specs.Lists.{all_of}
use Rattle.logic.specs.Words.{bytes}
use Rattle.logic.proofs.Chain.{both_left, either_cases}
use Rattle.table.specs.layouts.Layouts.{Width}
use Rattle.revlib.specs.Grammar.{Constants, unsaid, all_data, one_ancilla, ancilla_count, spaced, numvars_line, variables_line, constants_line, constants_word, heading, different, lower_case, data_count, heading_ok}
use Rattle.revlib.specs.Reading.{starts, names_at, constants_at, constants_in, heading_here}
use Rattle.revlib.proofs.Exact.{spaced_length, name_count}
use Rattle.revlib_reader.specs.declared.heading.Heading.{Heading}
use Rattle.revlib_reader.specs.keywords.Words.{letters_line}
use Rattle.revlib_reader.specs.heading.Inner.{opening, closing, dashes, dashed, five_at, names_ok, headed, end_of}
use Rattle.revlib_reader.specs.heading.Heading.{HeadingIs, HeadingBroken, HeadingTold, HeadingRead}
use Rattle.revlib_reader.proofs.keywords.Beginnings.{pieces}

-- the number of letters read
pub name_number : (s : List ℕ) → min (get_or s 22 0 - 48) 5 ≡ length (names_at s)
unfolding names_at
name_number s = sym (length-take (get_or s 22 0 - 48) (get_or s 35 0 ∷ get_or s 37 0 ∷ get_or s 39 0 ∷ get_or s 41 0 ∷ get_or s 43 0 ∷ []))

pub numvars_pieces : (w : ℕ) (s : List ℕ) → starts (numvars_line w) s ≡ both (starts (bytes ".numvars ") s) (starts ((48 + w) ∷ 10 ∷ []) (drop 9 s))
unfolding numvars_line
numvars_pieces w s = pieces (bytes ".numvars ") ((48 + w) ∷ 10 ∷ []) s

pub opening_pieces : (w : ℕ) (s : List ℕ)
    → starts (opening w) s
    ≡ both (starts (bytes ".version 2.0\n") s) (both (starts (numvars_line w) (drop 13 s)) (starts (bytes ".variables") (drop 24 s)))
unfolding opening numvars_line
opening_pieces w s =
    pieces (bytes ".version 2.0\n") (numvars_line w ++ bytes ".variables") s
    ∙ ap (both (starts (bytes ".version 2.0\n") s))
    (pieces (numvars_line w) (bytes ".variables") (drop 13 s)
    ∙ ap (λ (r : List ℕ). both (starts (numvars_line w) (drop 13 s)) (starts (bytes ".variables") r)) (drop-drop 11 13 s))

-- the dashes of the `.constants` line
pub few_dashes : (n : ℕ) → n ≤ 4 → take n (bytes "----") ≡ dashes n
unfolding dashes
few_dashes zero h = refl
few_dashes (suc zero) h = refl
few_dashes (suc (suc zero)) h = refl
few_dashes (suc (suc (suc zero))) h = refl
few_dashes (suc (suc (suc (suc zero)))) h = refl
few_dashes (suc (suc (suc (suc (suc n))))) h = absurd (omega arith)

dashes_length : (n : ℕ) → length (dashes n) ≡ n
unfolding dashes
dashes_length n = length-replicate {A = ℕ} n 45

pub dashes_pieces : (n : ℕ) (end s : List ℕ)
    → starts (dashed n end) s ≡ both (starts (bytes ".constants ") s) (both (starts (dashes n) (drop 11 s)) (starts end (drop (11 + n) s)))
unfolding dashed
dashes_pieces n end s =
    pieces (bytes ".constants ") (dashes n ++ end) s
    ∙ ap (both (starts (bytes ".constants ") s))
    (pieces (dashes n) end (drop 11 s) ∙ ap (λ r. both (starts (dashes n) (drop 11 s)) (starts end r)) (rw (dashes_length n) (drop-drop n 11 s)))

pub closing_unsaid : (n : ℕ) → closing n unsaid ≡ bytes ".begin\n"
unfolding closing constants_line
closing_unsaid n = refl

pub closing_data : (n : ℕ) → closing n all_data ≡ dashed n (bytes "\n.begin\n")
unfolding closing constants_line constants_word dashes dashed
closing_data n = simp append_assoc

pub closing_ancilla : (n : ℕ) → closing (n + 1) one_ancilla ≡ dashed n (bytes "0\n.begin\n")
unfolding closing constants_line constants_word dashes dashed
closing_ancilla n = let m : n + 1 - 1 ≡ n = omega arith in simp (append_assoc, m)

pub ruleset closings = (closing_unsaid, closing_data, closing_ancilla)

-- the rules of a heading depend on the number of data wires and the letters
rules : (ls : List ℕ) (c : Constants) → names_ok ls (length ls - ancilla_count c) ≡ heading_ok ls c
unfolding names_ok heading_ok data_count
rules ls c = refl

opening_length : (w : ℕ) → length (opening w) ≡ 34
unfolding opening numvars_line
opening_length w = refl

letters_length : (ls : List ℕ) → length (letters_line ls) ≡ 1 + 2 * length ls
unfolding letters_line
letters_length ls = omega (arith, length-append (spaced ls) (bytes "\n"), spaced_length ls)

in_pieces : (ls : List ℕ) (c : Constants) → heading ls c ≡ opening (length ls) ++ (letters_line ls ++ closing (length ls) c)
unfolding heading opening letters_line closing variables_line numvars_line
in_pieces ls c = simp append_assoc

heading_pieces : (ls : List ℕ) (c : Constants) (s : List ℕ) → starts (heading ls c) s
    ≡ both (starts (opening (length ls)) s) (both (starts (letters_line ls) (drop 34 s)) (starts (closing (length ls) c) (drop (35 + 2 * length ls) s)))
heading_pieces ls c s =
    let w = length ls in
    let n : 34 + length (letters_line ls) ≡ 35 + 2 * w = omega (arith, letters_length ls) in
    ap (λ (h : List ℕ). starts h s) (in_pieces ls c)
    ∙ pieces (opening w) (letters_line ls ++ closing w c) s
    ∙ ap (λ (k : ℕ). both (starts (opening w) s) (starts (letters_line ls ++ closing w c) (drop k s))) (opening_length w)
    ∙ ap (both (starts (opening w) s))
    (pieces (letters_line ls) (closing w c) (drop 34 s)
    ∙ ap (λ (r : List ℕ). both (starts (letters_line ls) (drop 34 s)) (starts (closing w c) r))
    (drop-drop (length (letters_line ls)) 34 s ∙ ap (λ (k : ℕ). drop k s) n))

module _ (ls : List ℕ) (n : ℕ) (ok : names_ok ls n ≡ true) where
  pub three_or_four : Width n
  unfolding names_ok
  three_or_four =
      ⊎_elim (λ (e : eqb n 3 ≡ true). inl (eqb-true n 3 e)) (λ (e : eqb n 4 ≡ true). inr (eqb-true n 4 e))
      (either_cases (eqb n 3) (eqb n 4) (both_left (either (eqb n 3) (eqb n 4)) (both (different ls) (all_of lower_case ls)) ok))

-- with three or four data wires the wires are those and the ancillas
all_wires : (w m n : ℕ) → n ≡ w - m → Width n → w ≡ n + m
all_wires w m n d (inl e) = omega arith
all_wires w m n d (inr e) = omega arith

-- by its rules: no heading, or the one that its parts make
module _ (ls : List ℕ) (c : Constants) (s : List ℕ) (n : ℕ) (e : n ≡ length ls - ancilla_count c) where
  pub heading_refused : names_ok ls n ≡ false → headed ls c s ≡ false
  unfolding headed
  heading_refused h = let k : heading_ok ls c ≡ false = sym (rules ls c) ∙ ap (names_ok ls) (sym e) ∙ h in rw k

  pub heading_accepted : names_ok ls n ≡ true
      → headed ls c s
      ≡ both (starts (opening (length ls)) s) (both (starts (letters_line ls) (drop 34 s)) (starts (closing (n + ancilla_count c) c) (drop (35 + 2 * length ls) s)))
  unfolding headed
  heading_accepted h =
      let k : heading_ok ls c ≡ true = sym (rules ls c) ∙ ap (names_ok ls) (sym e) ∙ h in
      let w = all_wires (length ls) (ancilla_count c) n e (three_or_four ls n h) in
      rw (k, ← w) (heading_pieces ls c s)

-- the letters read
again : (k : ℕ) (l : List ℕ) → take (length (take k l)) l ≡ take k l
again k l = ap (take (length (take k l))) (sym (take-append-drop k l)) ∙ take-append_seam (take k l) (drop k l)

names_are : (s : List ℕ) → take (length (names_at s)) (five_at s) ≡ names_at s
unfolding names_at five_at
names_are s = again (get_or s 22 0 - 48) (get_or s 35 0 ∷ get_or s 37 0 ∷ get_or s 39 0 ∷ get_or s 41 0 ∷ get_or s 43 0 ∷ [])

-- where the heading ends
word_length : (n m : ℕ) → length (constants_word n m) ≡ n + m
unfolding constants_word
word_length n m = simp (length-append, length-replicate)

closing_length : (w : ℕ) (c : Constants) → 1 ≤ w → 35 + 2 * w + length (closing w c) ≡ end_of w c
unfolding closing constants_line
closing_length w unsaid h = omega arith
closing_length w all_data h = simp length-append (omega (arith, word_length w 0))
closing_length w one_ancilla h = simp length-append (omega (arith, word_length (w - 1) 1))

heading_length : (ls : List ℕ) (c : Constants) → 1 ≤ length ls → length (heading ls c) ≡ end_of (length ls) c
heading_length ls c h =
    ap length (in_pieces ls c) ∙ simp length-append (omega (arith, opening_length (length ls), letters_length ls, closing_length (length ls) c h))

-- what was read off a text, with its letters and its line of constants, by whether the text begins with the heading that they make
module _ (s : List ℕ) (h : Heading) (c : Constants) (five : h.names ≡ five_at s) (wires : h.wires ≡ length (names_at s)) (said : c ≡ constants_at s h.wires)
    (spare : h.ancillas ≡ ancilla_count c) (end : h.end ≡ end_of h.wires c) where
  letters_are : take h.wires h.names ≡ names_at s
  letters_are = ap₂ take wires five ∙ names_are s

  said_so : c ≡ constants_in s
  unfolding constants_in
  said_so = said ∙ ap (constants_at s) wires

  here : headed (take h.wires h.names) c s ≡ heading_here s
  unfolding headed heading_here
  here = rw (letters_are, said_so)

  pub heading_sound : headed (take h.wires h.names) c s ≡ true → HeadingIs s h
  unfolding heading_here
  heading_sound e =
      let is : heading_here s ≡ true = sym here ∙ e in
      let ok = both_left (heading_ok (names_at s) (constants_in s)) (starts (heading (names_at s) (constants_in s)) s) is in
      let n = (name_count (names_at s) (constants_in s) ok).0 in
      record {
        sound = is;
        names = letters_are;
        spare = spare ∙ ap ancilla_count said_so;
        end = end ∙ ap₂ end_of wires said_so ∙ sym (heading_length (names_at s) (constants_in s) (omega arith));
      }

  pub heading_broken : headed (take h.wires h.names) c s ≡ false → HeadingBroken s h
  heading_broken e = record { unsound = sym here ∙ e; names = letters_are; spare = spare ∙ ap ancilla_count said_so }

  -- both at once, by the test of the text
  pub heading_read : (t : Bool) → t ≡ headed (take h.wires h.names) c s → HeadingRead s (then_some t h)
  heading_read false e = (heading_broken (sym e)).unsound
  heading_read true e = heading_sound (sym e)

-- what is told of a heading holds of it where it is in order
pub heading_told : (s : List ℕ) (r : Result Heading Heading) → HeadingTold s r → HeadingRead s (result_ok r)
heading_told s (Ok h) told = told
heading_told s (Err h) told = told.unsound
