-- The entries of a sound library: each is the first of its gate, so that its price and duration are the gate's.
use mathlib.Core.Path.{◌≡◌, refl, sym, ap}
use mathlib.Core.Bool.{true}
use mathlib.Core.List.{List, [], ◌∷◌}
use Prim.Native.Nat.{ℕ, zero, suc, ◌≤◌, ◌<◌}
use native.Mathlib.Nat.{not-suc-le-zero, le_of_suc-le-suc}
use native.Mathlib.Omega.{arith}
use borrow.Author.Tests.{eq-eqb, ne_eqb, leb-true}
use lib.Dec.{leb}
use lib.ListN.{length, get_or}
use Rattle.logic.specs.Rules.{both}
use Rattle.logic.proofs.Chain.{both_left, both_right}
use Rattle.gate.specs.Gates.{lawful}
use Rattle.record.specs.job_fields.Jobs.{most_controls, wires}
use Rattle.outcomes.specs.Inner.{Lawfuls, Tabled}
use Rattle.problem.specs.declared.Entry.{Entry}
use Rattle.library.specs.entries.Library.{entries_of, gates_in, entry_for, entry_ok, entries_ok, library_code}
use Rattle.library.specs.calls.Calls.{set_in}
use Rattle.library.proofs.calls.Sound.{sound_library, gates_lawful}

module _ (k w : ℕ) (d : Entry) where
  entry_above : (least : ℕ) (e : Entry) → entry_ok k w least e ≡ true → least ≤ e.gate
  unfolding entry_ok
  entry_above least e h =
      let slow = leb 1 e.duration in
      let above = leb least e.gate in
      leb-true least e.gate (both_right slow above (both_right (lawful k w e.gate) (both slow above) h))

  -- later entries have greater gate bytes
  above : (least : ℕ) (es : List Entry) → entries_ok k w least es ≡ true → (i : ℕ) → i < length es → least ≤ (get_or es i d).gate
  unfolding entries_ok
  above least [] h i l = absurd (not-suc-le-zero l)
  above least (e ∷ es) h zero l = entry_above least e (both_left (entry_ok k w least e) (entries_ok k w (suc e.gate) es) h)
  above least (e ∷ es) h (suc i) l =
      let here = entry_above least e (both_left (entry_ok k w least e) (entries_ok k w (suc e.gate) es) h) in
      let there = above (suc e.gate) es (both_right (entry_ok k w least e) (entries_ok k w (suc e.gate) es) h) i (le_of_suc-le-suc l) in
      omega arith

  -- so each entry is the first of its gate
  found_at : (least : ℕ) (es : List Entry) → entries_ok k w least es ≡ true → (i : ℕ) → i < length es
      → entry_for es (get_or es i d).gate ≡ get_or es i d
  unfolding entries_ok entry_for
  found_at least [] h i l = absurd (not-suc-le-zero l)
  found_at least (e ∷ es) h zero l = rw (eq-eqb e.gate e.gate refl)
  found_at least (e ∷ es) h (suc i) l =
      let rest = both_right (entry_ok k w least e) (entries_ok k w (suc e.gate) es) h in
      let there = above (suc e.gate) es rest i (le_of_suc-le-suc l) in
      rw (ne_eqb e.gate (get_or es i d).gate (λ q. omega arith)) (found_at (suc e.gate) es rest i (le_of_suc-le-suc l))

module _ (job lib : List ℕ) (sound : library_code job lib ≡ 0) where
  pub lawful_entries : Lawfuls job (gates_in lib)
  lawful_entries = gates_lawful job lib (sound_library job lib sound).sound

  entry_own : (i : ℕ) (d : Entry) → i < length (entries_of lib) → get_or (entries_of lib) i d ≡ entry_for (entries_of lib) (get_or (entries_of lib) i d).gate
  entry_own i d h = sym (found_at (most_controls job) (wires job) d 0 (entries_of lib) (sound_library job lib sound).sound i h)

  pub tabled : Tabled (set_in lib) (entries_of lib)
  tabled = record {
    listed = refl;
    priced = λ i d h. ap (λ (e : Entry). e.price) (entry_own i d h);
    timed = λ i d h. ap (λ (e : Entry). e.duration) (entry_own i d h);
  }
