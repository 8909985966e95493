-- Entries by their places: what a loop that has passed i of them has still to look at.
use mathlib.Core.Path.{◌≡◌, refl, sym, ap, ◌∙◌}
use mathlib.Core.Bool.{Bool, true}
use mathlib.Core.List.{List, [], ◌∷◌}
use Prim.Native.Nat.{ℕ, zero, suc, ◌+◌, ◌*◌, ◌/◌, ◌≤◌, ◌<◌}
use native.Mathlib.Numerals.{add-one}
use native.Mathlib.Omega.{arith}
use lib.Dec.{eqb}
use lib.ListN.{length, get_or, drop, drop_of_length-le}
use lib.Seq.{drop-cons}
use Rattle.logic.specs.Rules.{both, pick}
use Rattle.problem.specs.declared.Entry.{Entry}
use Rattle.library.specs.entries.Library.{entries_of, entry_for, entry_ok, entries_ok}
use Rattle.library.specs.entries.Inner.{entry_at}

pub length_entries : (lib : List ℕ) → length (entries_of lib) ≡ length lib / 3
unfolding entries_of
length_entries [] = omega arith
length_entries (g ∷ []) = omega arith
length_entries (g ∷ p ∷ []) = omega arith
length_entries (g ∷ p ∷ d ∷ l) = omega (arith, length_entries l)

-- three bytes further
past : (g p d : ℕ) (l : List ℕ) (n m : ℕ) → n ≡ suc (suc (suc m)) → get_or (g ∷ p ∷ d ∷ l) n 0 ≡ get_or l m 0
past g p d l n m e = rw e

entry_next : (g p d : ℕ) (l : List ℕ) (i : ℕ) → entry_at (g ∷ p ∷ d ∷ l) (suc i) ≡ entry_at l i
unfolding entry_at
entry_next g p d l i =
    λ t. record {
      gate = past g p d l (3 * suc i) (3 * i) (omega arith) t;
      price = past g p d l (3 * suc i + 1) (3 * i + 1) (omega arith) t;
      duration = past g p d l (3 * suc i + 2) (3 * i + 2) (omega arith) t;
    }

entry_first : (g p d : ℕ) (l : List ℕ) → record { gate = g; price = p; duration = d } ≡ entry_at (g ∷ p ∷ d ∷ l) zero
unfolding entry_at
entry_first g p d l = refl

pub entry_is : (lib : List ℕ) (i : ℕ) (e : Entry) → i < length lib / 3 → get_or (entries_of lib) i e ≡ entry_at lib i
unfolding entries_of
entry_is [] i e h = absurd (omega arith)
entry_is (g ∷ []) i e h = absurd (omega arith)
entry_is (g ∷ p ∷ []) i e h = absurd (omega arith)
entry_is (g ∷ p ∷ d ∷ l) zero e h = entry_first g p d l
entry_is (g ∷ p ∷ d ∷ l) (suc i) e h = entry_is l i e (omega arith) ∙ sym (entry_next g p d l i)

module _ (lib : List ℕ) (i : ℕ) where
  abbrev blank : Entry
  blank = record { gate = 0; price = 0; duration = 0 }

  pub entry_cons : i < length lib / 3 → drop i (entries_of lib) ≡ entry_at lib i ∷ drop (i + 1) (entries_of lib)
  entry_cons h =
      rw (add-one) (drop-cons (entries_of lib) i blank (omega (arith, length_entries lib))
      ∙ ap (λ (e : Entry). e ∷ drop (suc i) (entries_of lib)) (entry_is lib i blank h))

  pub entry_done : length lib / 3 ≤ i → drop i (entries_of lib) ≡ []
  entry_done h =
      let k : length (entries_of lib) ≤ i = omega (arith, length_entries lib) in drop_of_length-le (entries_of lib) k

  module _ (k w least : ℕ) where
    -- the rules of the entry at i have the result t
    pub sound_turn : (t : Bool) → i < length lib / 3 → entry_ok k w least (entry_at lib i) ≡ t
        → entries_ok k w least (drop i (entries_of lib)) ≡ both t (entries_ok k w (suc (entry_at lib i).gate) (drop (i + 1) (entries_of lib)))
    unfolding entries_ok
    sound_turn t h e = rw (entry_cons h, e)

    pub sound_done : length lib / 3 ≤ i → entries_ok k w least (drop i (entries_of lib)) ≡ true
    unfolding entries_ok
    sound_done h = rw (entry_done h)

  module _ (b : ℕ) where
    pub find_turn : (t : Bool) → i < length lib / 3 → eqb (entry_at lib i).gate b ≡ t
        → entry_for (drop i (entries_of lib)) b ≡ pick t (entry_at lib i) (entry_for (drop (i + 1) (entries_of lib)) b)
    unfolding entry_for
    find_turn t h e = rw (entry_cons h, e)

    pub find_done : length lib / 3 ≤ i → entry_for (drop i (entries_of lib)) b ≡ record { gate = b; price = 0; duration = 0 }
    unfolding entry_for
    find_done h = rw (entry_done h)
