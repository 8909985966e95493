-- A list after a write, read at any place.
use mathlib.Core.Path.{◌≡◌, sym, ◌∙◌}
use mathlib.Core.List.{List, [], ◌∷◌}
use Prim.Native.Nat.{ℕ, ◌<◌}
use native.Mathlib.Decide.{ℕ_discrete}
use native.Mathlib.Omega.{arith}
use borrow.Author.Tests.{eq-eqb, ne_eqb}
use lib.Dec.{eqb}
use lib.ListN.{length, get_or, set, length-set}
use lib.Seq.{get_or-set_same, get_or-set_other}
use Rattle.logic.specs.Rules.{pick}
use Rattle.logic.proofs.Members.{spelled}

pub set_at : (l : List ℕ) (i a w : ℕ) → w < length l → get_or (set l i a) w 0 ≡ pick (eqb w i) a (get_or l w 0)
set_at l i a w h = by_place (ℕ_discrete w i)
  where
    by_place : Dec (w ≡ i) → get_or (set l i a) w 0 ≡ pick (eqb w i) a (get_or l w 0)
    by_place (yes e) = rw (eq-eqb w i e, e) (get_or-set_same l i a 0 (rw e at h))
    by_place (no n) = rw (ne_eqb w i n) (get_or-set_other l i w a 0 n)

-- a write to one of five cells, as a choice at each cell
pub set_five : (l : List ℕ) (i x : ℕ) → length l ≡ 5
    → pick (eqb i 0) x (get_or l 0 0)
    ∷ pick (eqb i 1) x (get_or l 1 0)
    ∷ pick (eqb i 2) x (get_or l 2 0)
    ∷ pick (eqb i 3) x (get_or l 3 0)
    ∷ pick (eqb i 4) x (get_or l 4 0)
    ∷ []
    ≡ set l i x
set_five l i x h =
    let at : (w : ℕ) → w < 5 → get_or (set l i x) w 0 ≡ pick (eqb i w) x (get_or l w 0) = λ w k. by_place w (rw h k) (ℕ_discrete i w) in
    sym (sym (spelled (set l i x) 5 (length-set l i x ∙ h))
    ∙ rw (at 0 (omega arith), at 1 (omega arith), at 2 (omega arith), at 3 (omega arith), at 4 (omega arith)))
  where
    by_place : (w : ℕ) → w < length l → Dec (i ≡ w) → get_or (set l i x) w 0 ≡ pick (eqb i w) x (get_or l w 0)
    by_place w k (yes e) = rw (eq-eqb i w e, ← e) (get_or-set_same l i x 0 (rw (← e) at k))
    by_place w k (no n) = rw (ne_eqb i w n) (get_or-set_other l i w x 0 (λ e. n (sym e)))
