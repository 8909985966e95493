-- The tests of letters, by the library's searches and by what remains to be done when a loop has passed i of them.
use Rattle.std.proofs.Common.{◌≡◌, refl, sym, ap, ◌∙◌, Bool, true, false, not, cond, ◌||◌, List, [], ◌∷◌, ℕ, zero, suc, ◌+◌, ◌*◌, ◌^◌, ◌≤◌, ◌<◌, length, get_or, take, drop, eqb, ltb, unwrap_or, Some, None, arith}
use Rattle.std.specs.List.{list_any, position, position_or_len}
use Rattle.std.proofs.lemmas.List.Recursion.{is_position_or_len}
use Rattle.std.proofs.lemmas.List.Sums.{prefix_len-le-length}
use borrow.Author.Tests.{ltb-false}
use lib.Seq.{drop-cons}
use lib.ListN.{drop_of_length-le}
use native.Mathlib.Numerals.{add-one}
use Rattle.logic.specs.Rules.{both, either, pick}
use Rattle.revlib.specs.Grammar.{is_in, different, wire_of, gate_byte}

or_either : (a b : Bool) → (a || b) ≡ either a b
or_either true b = refl
or_either false b = refl

-- the library's `contains` is membership
pub any_is_in : (x : ℕ) (l : List ℕ) → list_any (λ y. eqb y x) l ≡ is_in x l
unfolding is_in
any_is_in x [] = refl
any_is_in x (y ∷ l) = or_either (eqb y x) (list_any (λ y. eqb y x) l) ∙ ap (either (eqb y x)) (any_is_in x l)

module _ (l : List ℕ) (i : ℕ) where
  pub different_turn : i < length l → (t : Bool) → is_in (get_or l i 0) (drop (i + 1) l) ≡ t → different (drop i l) ≡ both (not t) (different (drop (i + 1) l))
  unfolding different
  different_turn more t e = rw (← e, add-one, drop-cons l i 0 more)

  pub different_done : length l ≤ i → different (drop i l) ≡ true
  unfolding different
  different_done end = rw (drop_of_length-le l end)

-- the wire of a letter is its position
wire_is : (l : List ℕ) (x : ℕ) → wire_of l x ≡ position_or_len (λ y. eqb y x) l
unfolding wire_of
wire_is l x = is_position_or_len (λ (l : List ℕ). wire_of l x) (λ y. eqb y x) refl (λ y l. by_first (eqb y x) (wire_of l x)) l
  where
    by_first : (t : Bool) (n : ℕ) → pick t 0 (suc n) ≡ cond t 0 (1 + n)
    by_first true n = refl
    by_first false n = omega arith

pub wire_found : (l : List ℕ) (x : ℕ) → unwrap_or (position (λ y. eqb y x) l) (length l) ≡ wire_of l x
wire_found l x = by_end (ltb (position_or_len (λ y. eqb y x) l) (length l)) refl ∙ sym (wire_is l x)
  where
    by_end : (t : Bool) → ltb (position_or_len (λ y. eqb y x) l) (length l) ≡ t
        → unwrap_or (cond t (Some (position_or_len (λ y. eqb y x) l)) None) (length l) ≡ position_or_len (λ y. eqb y x) l
    by_end true e = refl
    by_end false e = omega (arith, ltb-false (position_or_len (λ y. eqb y x) l) (length l) e, prefix_len-le-length (λ y. not (eqb y x)) l)

-- the bits of a line's controls
abbrev pub bits : List ℕ → List ℕ → ℕ
bits ls [] = 0
bits ls (x ∷ l) = 2 ^ wire_of ls x + bits ls l

pub bits_more : (ls l : List ℕ) (i : ℕ) → i < length l → bits ls (drop i l) ≡ 2 ^ wire_of ls (get_or l i 0) + bits ls (drop (i + 1) l)
bits_more ls l i h = rw (add-one, drop-cons l i 0 h)

pub bits_done : (ls l : List ℕ) (i : ℕ) → length l ≤ i → bits ls (drop i l) ≡ 0
bits_done ls l i h = rw (drop_of_length-le l h)

pub byte_of : (ls line : List ℕ) (n : ℕ) → length line ≡ n + 1 → 32 * wire_of ls (get_or line n 0) + bits ls (take n line) ≡ gate_byte ls line
unfolding gate_byte
byte_of ls [] n e = absurd (omega arith)
byte_of ls (t ∷ []) zero e = omega arith
byte_of ls (t ∷ []) (suc n) e = absurd (omega arith)
byte_of ls (c ∷ d ∷ l) zero e = absurd (omega arith)
byte_of ls (c ∷ d ∷ l) (suc n) e = omega (arith, byte_of ls (d ∷ l) n (omega arith))
