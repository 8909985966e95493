-- A text is read as a description exactly when the description is well formed and the text is its rendering.
use mathlib.Core.Path.{◌≡◌, refl, sym, ap, ◌∙◌}
use mathlib.Core.Bool.{Bool, true, false, false≢true}
use mathlib.Core.Logic.{⊎_elim, ◌↔◌}
use mathlib.Core.List.{List, [], ◌∷◌, ◌++◌}
use mathlib.Core.Option.{Option, none, some}
use Prim.Native.Nat.{ℕ, zero, suc, ◌+◌, ◌*◌, ◌≤◌}
use native.Mathlib.Omega.{arith}
use borrow.Author.Tests.{eqb-true, eq-eqb, leb-true}
use lib.Dec.{eqb, leb}
use lib.ListN.{length, drop, length-append, drop_of_length-le}
use lib.Seq.{drop-append_seam}
use Rattle.logic.specs.Rules.{both, either, pick}
use Rattle.logic.specs.Lists.{all_of}
use Rattle.logic.proofs.Chain.{both_left, both_right, both_parts, both_true, either_cases}
use Rattle.revlib.specs.Grammar.{Constants, unsaid, all_data, one_ancilla, Description, spaced, numvars_line, variables_line, constants_line, constants_word, heading, gate_line, body, render, different, lower_case, data_count, heading_ok, line_ok, declared, well_formed}
use Rattle.logic.specs.Words.{bytes}
use Rattle.revlib.specs.Reading.{starts, announced, line_at, line_here, end_here, after, lines_at, names_at, constants_at, constants_in, heading_here, described, rest_of, parse}

-- Words.

pub starts_append : (x y : List ℕ) → starts x (x ++ y) ≡ true
unfolding starts
starts_append [] y = refl
starts_append (a ∷ x) y = both_true (eq-eqb a a refl) (starts_append x y)

pub starts_split : (x s : List ℕ) → starts x s ≡ true → x ++ drop (length x) s ≡ s
unfolding starts
starts_split [] s h = refl
starts_split (a ∷ x) [] h = absurd (false≢true h)
starts_split (a ∷ x) (b ∷ s) h =
    let e = eqb-true b a (both_left (eqb b a) (starts x s) h) in
    let r = starts_split x s (both_right (eqb b a) (starts x s) h) in
    rw (e) (ap (λ (l : List ℕ). a ∷ l) r)

-- Gate lines.

pub spaced_length : (l : List ℕ) → length (spaced l) ≡ 2 * length l
unfolding spaced
spaced_length [] = refl
spaced_length (x ∷ l) = omega (arith, spaced_length l)

pub line_length : (l : List ℕ) → length (gate_line l) ≡ 3 + 2 * length l
unfolding gate_line
line_length l = omega (arith, length-append (spaced l) (bytes "\n"), spaced_length l)

pub skipped : (ls : List ℕ) (n : ℕ) (s : List ℕ) → lines_at ls n s ≡ lines_at ls 0 (drop n s)
unfolding lines_at
skipped ls zero s = refl
skipped ls (suc n) [] = refl
skipped ls (suc n) (b ∷ s) = skipped ls n s

-- the end is the whole text that is left
ended : (s : List ℕ) → end_here s ≡ true → bytes ".end\n" ≡ s
unfolding end_here
ended s h =
    let p = both_parts (starts (bytes ".end\n") s) (eqb (length s) 5) h in
    let n = eqb-true (length s) 5 p.1 in
    let m : length s ≤ 5 = omega arith in
    let z : drop 5 s ≡ [] = drop_of_length-le s m in
    ap (λ (l : List ℕ). bytes ".end\n" ++ l) (sym z) ∙ starts_split (bytes ".end\n") s p.0

abbrev Read : List ℕ → List (List ℕ) → List ℕ → Type 0
Read ls l s = (all_of (line_ok ls) l ≡ true) × (body l ≡ s)

module _ (ls : List ℕ) where
  end_read : (s : List ℕ) (l : List (List ℕ)) → end_here s ≡ true → some [] ≡ some l → Read ls l s
  unfolding all_of body
  end_read s l t k = let e : [] ≡ l = cc in rw (← e) (refl, ended s t)

  line_read : (b : ℕ) (s : List ℕ) (r l : List (List ℕ)) → line_here ls (b ∷ s) ≡ true → Read ls r (drop (2 + 2 * length (line_at (b ∷ s))) s)
      → some (line_at (b ∷ s) ∷ r) ≡ some l → Read ls l (b ∷ s)
  unfolding all_of body line_here
  line_read b s r l t h k =
      let a = line_at (b ∷ s) in
      let p = both_parts (line_ok ls a) (starts (gate_line a) (b ∷ s)) t in
      let e : a ∷ r ≡ l = cc in
      let n : length (gate_line a) ≡ suc (2 + 2 * length a) = omega (arith, line_length a) in
      let d : drop (length (gate_line a)) (b ∷ s) ≡ drop (2 + 2 * length a) s = rw n in
      rw (← e)
      (both_true p.0 h.0, ap (λ (x : List ℕ). gate_line a ++ x) (h.1 ∙ sym d) ∙ starts_split (gate_line a) (b ∷ s) p.1)

  pub lines_sound : (s : List ℕ) (n : ℕ) (l : List (List ℕ)) → lines_at ls n s ≡ some l → Read ls l (drop n s)
  unfolding lines_at
  lines_sound [] n l h = let z : ◌≡◌ {A = ℕ} 0 1 = cc in absurd (omega arith)
  lines_sound (b ∷ s) (suc n) l h = lines_sound s n l h
  lines_sound (b ∷ s) zero l h = by_end (λ r e. lines_sound s (2 + 2 * length (line_at (b ∷ s))) r e) (end_here (b ∷ s)) refl h
    where
      by_lines : ((r : List (List ℕ)) → lines_at ls (2 + 2 * length (line_at (b ∷ s))) s ≡ some r → Read ls r (drop (2 + 2 * length (line_at (b ∷ s))) s))
          → line_here ls (b ∷ s) ≡ true → (o : Option (List (List ℕ))) → lines_at ls (2 + 2 * length (line_at (b ∷ s))) s ≡ o
          → after (line_at (b ∷ s)) o ≡ some l → Read ls l (b ∷ s)
      by_lines more t none e k = let z : ◌≡◌ {A = ℕ} 0 1 = cc in absurd (omega arith)
      by_lines more t (some r) e k = line_read b s r l t (more r e) k

      by_line : ((r : List (List ℕ)) → lines_at ls (2 + 2 * length (line_at (b ∷ s))) s ≡ some r → Read ls r (drop (2 + 2 * length (line_at (b ∷ s))) s))
          → (t : Bool) → line_here ls (b ∷ s) ≡ t
          → pick t (after (line_at (b ∷ s)) (lines_at ls (2 + 2 * length (line_at (b ∷ s))) s)) none ≡ some l → Read ls l (b ∷ s)
      by_line more true t k = by_lines more t (lines_at ls (2 + 2 * length (line_at (b ∷ s))) s) refl k
      by_line more false t k = let z : ◌≡◌ {A = ℕ} 0 1 = cc in absurd (omega arith)

      by_end : ((r : List (List ℕ)) → lines_at ls (2 + 2 * length (line_at (b ∷ s))) s ≡ some r → Read ls r (drop (2 + 2 * length (line_at (b ∷ s))) s))
          → (t : Bool) → end_here (b ∷ s) ≡ t
          → pick t (some []) (pick (line_here ls (b ∷ s)) (after (line_at (b ∷ s)) (lines_at ls (2 + 2 * length (line_at (b ∷ s))) s)) none) ≡ some l
          → Read ls l (b ∷ s)
      by_end more true t k = end_read (b ∷ s) l t k
      by_end more false t k = by_line more (line_here ls (b ∷ s)) refl k

  -- a line's letters are one, two or three
  pub line_count : (l : List ℕ) → line_ok ls l ≡ true → (1 ≤ length l) × (length l ≤ 3)
  unfolding line_ok
  line_count l h =
      let p = both_parts (leb 1 (length l)) (leb (length l) 3) (both_left (both (leb 1 (length l)) (leb (length l) 3)) (both (different l) (all_of (declared ls) l)) h) in
      (leb-true 1 (length l) p.0, leb-true (length l) 3 p.1)

  -- a line in front of a text is read off it, and what follows is read next
  line_next : (l s : List ℕ) → line_ok ls l ≡ true → (1 ≤ length l) × (length l ≤ 3)
      → lines_at ls 0 (gate_line l ++ s) ≡ after l (lines_at ls 0 s)
  unfolding lines_at gate_line spaced line_here line_at announced starts end_here
  line_next [] s h k = absurd (omega arith)
  line_next (x ∷ []) s h k = rw (h, eq-eqb x x refl)
  line_next (x ∷ y ∷ []) s h k = rw (h, eq-eqb x x refl, eq-eqb y y refl)
  line_next (x ∷ y ∷ z ∷ []) s h k = rw (h, eq-eqb x x refl, eq-eqb y y refl, eq-eqb z z refl)
  line_next (x ∷ y ∷ z ∷ w ∷ l) s h k = absurd (omega arith)

  pub lines_complete : (l : List (List ℕ)) → all_of (line_ok ls) l ≡ true → lines_at ls 0 (body l) ≡ some l
  unfolding all_of body lines_at end_here starts
  lines_complete [] h = refl
  lines_complete (a ∷ l) h =
      let p = both_parts (line_ok ls a) (all_of (line_ok ls) l) h in
      line_next a (body l) p.0 (line_count a p.0) ∙ ap (after a) (lines_complete l p.1)

-- The heading.

-- three to five letters
pub name_count : (ls : List ℕ) (c : Constants) → heading_ok ls c ≡ true → (3 ≤ length ls) × (length ls ≤ 5)
unfolding heading_ok data_count
name_count ls c h =
    ⊎_elim (λ (e : eqb (data_count ls c) 3 ≡ true). within c 3 (omega arith) (omega arith) (eqb-true (data_count ls c) 3 e))
    (λ (e : eqb (data_count ls c) 4 ≡ true). within c 4 (omega arith) (omega arith) (eqb-true (data_count ls c) 4 e))
    (either_cases (eqb (data_count ls c) 3) (eqb (data_count ls c) 4)
    (both_left (either (eqb (data_count ls c) 3) (eqb (data_count ls c) 4)) (both (different ls) (all_of lower_case ls)) h))
  where
    within : (c : Constants) (n : ℕ) → 3 ≤ n → n ≤ 4 → data_count ls c ≡ n → (3 ≤ length ls) × (length ls ≤ 5)
    within unsaid n l m e = (omega arith, omega arith)
    within all_data n l m e = (omega arith, omega arith)
    within one_ancilla n l m e = (omega arith, omega arith)

-- the letters and the constants of a heading are read off it
names_read : (ls : List ℕ) (c : Constants) (s : List ℕ) → (3 ≤ length ls) × (length ls ≤ 5) → names_at (heading ls c ++ s) ≡ ls
unfolding names_at heading numvars_line variables_line spaced
names_read [] c s k = absurd (omega arith)
names_read (x ∷ []) c s k = absurd (omega arith)
names_read (x ∷ y ∷ []) c s k = absurd (omega arith)
names_read (x ∷ y ∷ z ∷ []) c s k = refl
names_read (x ∷ y ∷ z ∷ u ∷ []) c s k = refl
names_read (x ∷ y ∷ z ∷ u ∷ v ∷ []) c s k = refl
names_read (x ∷ y ∷ z ∷ u ∷ v ∷ w ∷ ls) c s k = absurd (omega arith)

constants_read : (ls : List ℕ) (c : Constants) (s : List ℕ) → (3 ≤ length ls) × (length ls ≤ 5) → constants_at (heading ls c ++ s) (length ls) ≡ c
unfolding constants_at heading numvars_line variables_line spaced constants_line constants_word starts
constants_read [] c s k = absurd (omega arith)
constants_read (x ∷ []) c s k = absurd (omega arith)
constants_read (x ∷ y ∷ []) c s k = absurd (omega arith)
constants_read (x ∷ y ∷ z ∷ []) unsaid s k = refl
constants_read (x ∷ y ∷ z ∷ []) all_data s k = refl
constants_read (x ∷ y ∷ z ∷ []) one_ancilla s k = refl
constants_read (x ∷ y ∷ z ∷ u ∷ []) unsaid s k = refl
constants_read (x ∷ y ∷ z ∷ u ∷ []) all_data s k = refl
constants_read (x ∷ y ∷ z ∷ u ∷ []) one_ancilla s k = refl
constants_read (x ∷ y ∷ z ∷ u ∷ v ∷ []) unsaid s k = refl
constants_read (x ∷ y ∷ z ∷ u ∷ v ∷ []) all_data s k = refl
constants_read (x ∷ y ∷ z ∷ u ∷ v ∷ []) one_ancilla s k = refl
constants_read (x ∷ y ∷ z ∷ u ∷ v ∷ w ∷ ls) c s k = absurd (omega arith)

-- Both directions.

module _ (s : List ℕ) (d : Description) where
  sound : parse s ≡ some d → (well_formed d ≡ true) × (render d ≡ s)
  unfolding parse heading_here rest_of render well_formed
  sound h = by_heading (heading_here s) refl h
    where
      by_lines : heading_here s ≡ true → (o : Option (List (List ℕ))) → lines_at (names_at s) 0 (rest_of s) ≡ o
          → described (names_at s) (constants_in s) o ≡ some d → (well_formed d ≡ true) × (render d ≡ s)
      by_lines t none e k = let z : ◌≡◌ {A = ℕ} 0 1 = cc in absurd (omega arith)
      by_lines t (some l) e k =
          let p = both_parts (heading_ok (names_at s) (constants_in s)) (starts (heading (names_at s) (constants_in s)) s) t in
          let r = lines_sound (names_at s) (rest_of s) 0 l e in
          let q : record { letters = names_at s; constants = constants_in s; lines = l } ≡ d = cc in
          rw (← q)
          (both_true p.0 r.0, ap (λ (x : List ℕ). heading (names_at s) (constants_in s) ++ x) r.1 ∙ starts_split (heading (names_at s) (constants_in s)) s p.1)

      by_heading : (t : Bool) → heading_here s ≡ t → pick t (described (names_at s) (constants_in s) (lines_at (names_at s) 0 (rest_of s))) none ≡ some d
          → (well_formed d ≡ true) × (render d ≡ s)
      by_heading true t k = by_lines t (lines_at (names_at s) 0 (rest_of s)) refl k
      by_heading false t k = let z : ◌≡◌ {A = ℕ} 0 1 = cc in absurd (omega arith)

pub complete : (d : Description) → well_formed d ≡ true → parse (render d) ≡ some d
unfolding parse heading_here rest_of render well_formed constants_in
complete d h =
    let ls = d.letters in
    let c = d.constants in
    let p = both_parts (heading_ok ls c) (all_of (line_ok ls) d.lines) h in
    let k = name_count ls c p.0 in
    let b = body d.lines in
    rw (names_read ls c b k, constants_read ls c b k, p.0, starts_append (heading ls c) b, drop-append_seam (heading ls c) b, lines_complete ls d.lines p.1)

pub exact : (s : List ℕ) (d : Description) → (parse s ≡ some d) ↔ ((well_formed d ≡ true) × (render d ≡ s))
exact s d = (sound s d, (λ h. ap parse (sym h.1) ∙ complete d h.0))
