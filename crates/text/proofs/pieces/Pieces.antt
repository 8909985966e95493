-- Pieces written one after another are one text, and a text written at the start is the line.
use mathlib.Core.Path.{◌≡◌, refl, ap, ◌∙◌}
use mathlib.Core.Bool.{Bool, true, false}
use mathlib.Core.List.{List, [], ◌∷◌, ◌++◌}
use Prim.Native.Nat.{ℕ, suc, ◌+◌, ◌*◌, ◌/◌, ◌%◌, ◌<◌, ◌≤◌}
use native.Mathlib.Numerals.{add-one}
use native.Mathlib.Omega.{arith}
use lib.Dec.{leb}
use lib.ListN.{length, drop, get_or, set, length-append, drop_of_length-le}
use lib.Seq.{sets, sets-eq, drop-cons}
use borrow.Rule.Slice.PartMut.{put_mid}
use Rattle.std.proofs.Common.{append_assoc, take, sym}
use Rattle.std.proofs.lemmas.List.{drop-drop}
use Rattle.logic.specs.Rules.{pick}
use Rattle.circuit.specs.declared.measures.Measures.{Measures}
use Rattle.text.specs.pieces.Text.{place, decimal, spaced, hex_digit, hex_of, refused_line, found_line, in_front}
use Rattle.text.specs.pieces.Writing.{over, Wrote}

pub over_append : (s t l : List ℕ) (i : ℕ) → over (over l i s) (i + length s) t ≡ over l i (s ++ t)
unfolding over
over_append [] t l i = ap (λ (k : ℕ). sets l k t) (omega arith)
over_append (x ∷ s) t l i = ap (λ (k : ℕ). sets (sets (set l i x) (suc i) s) k t) (omega arith) ∙ over_append s t (set l i x) (suc i)

pub more : {l s m t n : List ℕ} {i j k : ℕ} → Wrote l i s m j → Wrote m j t n k → Wrote l i (s ++ t) n k
more {l} {s} {m} {t} {n} {i} {j} {k} a b =
    record {
      bytes = b.bytes ∙ ap (λ (x : List ℕ). over x j t) a.bytes ∙ ap (λ (x : ℕ). over (over l i s) x t) a.size ∙ over_append s t l i;
      size = omega (arith, length-append s t);
    }

pub none : (l : List ℕ) (i : ℕ) → Wrote l i [] l i
unfolding over
none l i = record { bytes = refl; size = omega arith }

pub one : (l : List ℕ) (i b : ℕ) → Wrote l i (b ∷ []) (set l i b) (i + 1)
unfolding over
one l i b = record { bytes = refl; size = refl }

-- a whole line
module _ {l line n : List ℕ} {k : ℕ} (w : Wrote l 0 line n k) where
  pub line_size : k ≡ length line
  line_size = omega (arith, w.size)

  pub line_in_front : length line ≤ length l → n ≡ in_front line l
  unfolding over
  line_in_front h =
      let e : 0 + length line ≡ length line = omega arith in w.bytes ∙ sets-eq line l 0 (omega arith) ∙ ap (λ (k : ℕ). line ++ drop k l) e

-- a text that is copied into a part of the buffer
pub over_part : (l text : List ℕ) (i k : ℕ) → k ≡ length text → i + k ≤ length l → put_mid i k l text ≡ over l i text
unfolding over
over_part l text i k e h =
    rw (e, drop-drop (length text) i l, sets-eq text l i (omega arith)) (sym (append_assoc (take i l) text (drop (i + length text) l)))

-- what a loop that has written the digits of k bytes still owes
pub hex_more : (l bytes : List ℕ) (i k : ℕ) → k < length bytes
    → over (set (set l (i + 2 * k) (hex_digit (get_or bytes k 0 / 16))) (i + 2 * k + 1) (hex_digit (get_or bytes k 0 % 16))) (i + 2 * (k + 1))
    (hex_of (drop (k + 1) bytes))
    ≡ over l (i + 2 * k) (hex_of (drop k bytes))
unfolding over hex_of
hex_more l bytes i k h =
    let e : i + 2 * (k + 1) ≡ suc (suc (i + 2 * k)) = omega arith in
    rw (e, add-one (i + 2 * k), add-one k, drop-cons bytes k 0 h)

pub hex_done : (l bytes : List ℕ) (i k : ℕ) → length bytes ≤ k → over l i (hex_of (drop k bytes)) ≡ l
unfolding over hex_of
hex_done l bytes i k h = rw (drop_of_length-le bytes h)

pub hex_length : (bytes : List ℕ) → length (hex_of bytes) ≡ 2 * length bytes
unfolding hex_of
hex_length [] = refl
hex_length (b ∷ bs) = omega (arith, hex_length bs)

pub place_short : (n p : ℕ) → length (place n p) ≤ 1
unfolding place
place_short n p = go (leb p n)
  where
    go : (b : Bool) → length (pick b ((48 + n / p % 10) ∷ []) []) ≤ 1
    go true = omega arith
    go false = omega arith

pub decimal_short : (n : ℕ) → length (decimal n) ≤ 5
unfolding decimal
decimal_short n = simp length-append (omega (arith, place_short n 10000, place_short n 1000, place_short n 100, place_short n 10))

pub spaced_short : (n : ℕ) → length (spaced n) ≤ 6
unfolding spaced
spaced_short n = simp length-append (omega (arith, decimal_short n))

pub refused_short : (code : ℕ) → length (refused_line code) ≤ 64
unfolding refused_line
refused_short code = simp length-append (omega (arith, decimal_short code))

pub found_short : (m : Measures) (bytes : List ℕ) → length bytes ≤ 15 → length (found_line m bytes) ≤ 64
unfolding found_line
found_short m bytes h =
    simp length-append (omega (arith, spaced_short m.gates, spaced_short m.cost, spaced_short m.depth, hex_length bytes))
