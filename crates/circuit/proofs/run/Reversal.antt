-- A list of lawful gates: running it backwards undoes running it forwards, and a value below 2^W stays below it. On columns the list does
-- to each row what it does to the row's value.
use mathlib.Core.Path.{◌≡◌, refl, ap, ◌∙◌}
use mathlib.Core.Bool.{true}
use mathlib.Core.List.{List, [], ◌∷◌}
use Prim.Native.Nat.{ℕ, ◌^◌, ◌≤◌, ◌<◌}
use lib.ListN.{length}
use Rattle.logic.specs.Lists.{all_of, along, back}
use Rattle.logic.proofs.Chain.{both_left, both_right}
use Rattle.gate.specs.Gates.{lawful, step, gate_of}
use Rattle.gate.specs.Inner.{column_step}
use Rattle.gate.proofs.Undo.{undo, stay}
use Rattle.gate.proofs.Slices.{Row, row_step, length_step}
use Rattle.circuit.specs.run.Run.{forwards, backwards}
use Rattle.circuit.specs.run.Inner.{columns_after}

module _ (k w : ℕ) where
  pub stays : (gs : List ℕ) (v : ℕ) → all_of (lawful k w) gs ≡ true → v < 2 ^ w → forwards gs v < 2 ^ w
  unfolding all_of along
  stays [] v h hv = hv
  stays (b ∷ gs) v h hv =
      stays gs (step b v) (both_right (lawful k w b) (all_of (lawful k w) gs) h)
      (stay k w b v (both_left (lawful k w b) (all_of (lawful k w) gs) h) hv)

  pub stays_back : (gs : List ℕ) (v : ℕ) → all_of (lawful k w) gs ≡ true → v < 2 ^ w → backwards gs v < 2 ^ w
  unfolding all_of back
  stays_back [] v h hv = hv
  stays_back (b ∷ gs) v h hv =
      stay k w b (backwards gs v) (both_left (lawful k w b) (all_of (lawful k w) gs) h)
      (stays_back gs v (both_right (lawful k w b) (all_of (lawful k w) gs) h) hv)

  pub undone : (gs : List ℕ) (v : ℕ) → w ≤ 5 → all_of (lawful k w) gs ≡ true → v < 2 ^ w → backwards gs (forwards gs v) ≡ v
  unfolding all_of along back
  undone [] v hw h hv = refl
  undone (b ∷ gs) v hw h hv =
      let hb = both_left (lawful k w b) (all_of (lawful k w) gs) h in
      let hs = both_right (lawful k w b) (all_of (lawful k w) gs) h in
      ap (step b) (undone gs (step b v) hw hs (stay k w b v hb hv)) ∙ undo k w b v hw hb hv

pub rows_run : (gs cs : List ℕ) (x v : ℕ) → all_of (lawful 3 5) gs ≡ true → length cs ≡ 5 → x < 16 → v < 32 → Row cs x v
    → Row (columns_after gs cs) x (forwards gs v)
unfolding all_of along
rows_run [] cs x v h hl hx hv r = r
rows_run (b ∷ gs) cs x v h hl hx hv r =
    let hb = both_left (lawful 3 5 b) (all_of (lawful 3 5) gs) h in
    rows_run gs (column_step (gate_of b) cs) x (step b v) (both_right (lawful 3 5 b) (all_of (lawful 3 5) gs) h)
    (length_step (gate_of b) cs ∙ hl) hx (stay 3 5 b v hb hv) (row_step cs x v hx r b hb hl hv)

pub columns_length : (gs cs : List ℕ) → length (columns_after gs cs) ≡ length cs
unfolding along
columns_length [] cs = refl
columns_length (b ∷ gs) cs = columns_length gs (column_step (gate_of b) cs) ∙ length_step (gate_of b) cs
