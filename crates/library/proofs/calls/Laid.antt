-- The entries of a list of gates, laid out with their prices and durations: what is found in them, and that they break no rule where the gates
-- rise, are lawful and take time.
use mathlib.Core.Path.{◌≡◌, refl, sym, ap, ap₂, ◌∙◌}
use mathlib.Core.Bool.{Bool, true, false, false≢true}
use mathlib.Core.Logic.{⊎_elim}
use mathlib.Core.List.Memᴰ
use mathlib.Core.List.{List, [], ◌∷◌, Memᴰ}
use Prim.Native.Nat.{ℕ, zero, suc, ◌*◌, ◌≤◌}
use native.Mathlib.Omega.{arith}
use borrow.Author.Tests.{eq-eqb, le-leb, eqb-true}
use lib.Dec.{eqb}
use lib.ListN.{length}
use Rattle.logic.specs.Rules.{pick}
use Rattle.logic.specs.Lists.{keep_only, numbers_from, total, along}
use Rattle.logic.proofs.Chain.{both_true}
use Rattle.gate.specs.Gates.{lawful, gate_of}
use Rattle.circuit.specs.Measure.{hold_byte, hold, idle}
use Rattle.circuit.specs.measures.Measures.{measures_with, measures_of}
use Rattle.problem.specs.declared.Entry.{Entry}
use Rattle.library.specs.entries.Library.{entries_of, gates_in, entry_for, laid_out, entry_ok, entries_ok}

module _ (price duration : ℕ → ℕ) where
  abbrev own : ℕ → Entry
  own g = record { gate = g; price = price g; duration = duration g }

  pub gates_laid : (gs : List ℕ) → gates_in (laid_out price duration gs) ≡ gs
  unfolding laid_out entries_of
  gates_laid [] = refl
  gates_laid (g ∷ gs) = ap (λ (l : List ℕ). g ∷ l) (gates_laid gs)

  pub length_laid : (gs : List ℕ) → length (laid_out price duration gs) ≡ 3 * length gs
  unfolding laid_out
  length_laid [] = refl
  length_laid (g ∷ gs) = omega (arith, length_laid gs)

  -- a gate's own entry is found
  pub find_laid : (gs : List ℕ) (b : ℕ) → Memᴰ b gs → entry_for (entries_of (laid_out price duration gs)) b ≡ own b
  unfolding laid_out entries_of entry_for
  find_laid [] b m = absurd (Memᴰ.not-nil m)
  find_laid (g ∷ gs) b m = by_gate (eqb g b) refl (find_laid gs b)
    where
      rest : List ℕ
      rest = laid_out price duration gs

      by_gate : (t : Bool) → eqb g b ≡ t → (Memᴰ b gs → entry_for (entries_of rest) b ≡ own b) → pick t (own g) (entry_for (entries_of rest) b) ≡ own b
      by_gate true e more = ap own (eqb-true g b e)
      by_gate false e more =
          ⊎_elim (λ (q : b ≡ g). absurd (false≢true (sym e ∙ eq-eqb g b (sym q)))) (λ (n : Memᴰ b gs). more n)
          (Memᴰ.cases_cons m)

  module _ (k w : ℕ) (slow : (b : ℕ) → lawful k w b ≡ true → 1 ≤ duration b) where
    entry_kept : (least g : ℕ) → least ≤ g → lawful k w g ≡ true → entry_ok k w least (own g) ≡ true
    unfolding entry_ok
    entry_kept least g h l = both_true l (both_true (le-leb 1 (duration g) (slow g l)) (le-leb least g h))

    -- the lawful ones among the numbers from i on
    pub sound_laid : (n i least : ℕ) → least ≤ i
        → entries_ok k w least (entries_of (laid_out price duration (keep_only (lawful k w) (numbers_from i n)))) ≡ true
    unfolding laid_out entries_of entries_ok
    sound_laid zero i least h = refl
    sound_laid (suc n) i least h = by_rule (lawful k w i) refl (sound_laid n (suc i))
      where
        later : List ℕ
        later = keep_only (lawful k w) (numbers_from (suc i) n)

        by_rule : (t : Bool) → lawful k w i ≡ t
            → ((m : ℕ) → m ≤ suc i → entries_ok k w m (entries_of (laid_out price duration later)) ≡ true)
            → entries_ok k w least (entries_of (laid_out price duration (pick t (i ∷ later) later))) ≡ true
        by_rule true e more = both_true (entry_kept least i h e) (more (suc i) (omega arith))
        by_rule false e more = more least (omega arith)

-- lists are measured alike at prices and durations that agree on their gates
abbrev pub Agree : (ℕ → ℕ) → (ℕ → ℕ) → List ℕ → Type 0
Agree f g l = (b : ℕ) → Memᴰ b l → f b ≡ g b

agree_tail : (f g : ℕ → ℕ) (x : ℕ) (l : List ℕ) → Agree f g (x ∷ l) → Agree f g l
agree_tail f g x l a b m = a b (Memᴰ.tail m)

pub total_same : (f g : ℕ → ℕ) (l : List ℕ) → Agree f g l → total f l ≡ total g l
unfolding total
total_same f g [] a = refl
total_same f g (x ∷ l) a = omega (arith, a x (Memᴰ.head refl), total_same f g l (agree_tail f g x l a))

pub along_same : (f g : ℕ → ℕ) (l ts : List ℕ) → Agree f g l → along (hold_byte f) l ts ≡ along (hold_byte g) l ts
unfolding along
along_same f g [] ts a = refl
along_same f g (x ∷ l) ts a =
    ap (λ (d : ℕ). along (hold_byte f) l (hold (gate_of x) d ts)) (a x (Memᴰ.head refl))
    ∙ along_same f g l (hold_byte g x ts) (agree_tail f g x l a)

module _ (price duration price' duration' : ℕ → ℕ) (l : List ℕ) (paid : Agree price price' l) (held : Agree duration duration' l) where
  pub measures_same : measures_of price duration l ≡ measures_of price' duration' l
  unfolding measures_of
  measures_same = ap₂ (measures_with (length l)) (total_same price price' l paid) (along_same duration duration' l idle held)
