-- Lists in which no value stands twice.
use mathlib.Core.Path.{◌≡◌, refl, sym, ap, ◌∙◌}
use mathlib.Core.Bool.{true, false, false≢true}
use mathlib.Core.List.{List, [], ◌∷◌}
use Prim.Native.Nat.{ℕ, zero, suc, ◌<◌}
use native.Mathlib.Nat.{not-suc-le-zero, le_of_suc-le-suc}
use borrow.Author.Tests.{eq-eqb, ne_eqb, not-true}
use lib.Dec.{eqb}
use lib.ListN.{length, get_or}
use Rattle.logic.specs.Lists.{all_of}
use Rattle.logic.proofs.Chain.{both_left, both_right}
use Rattle.logic.proofs.Members.{member_at, all_member}
use Rattle.table.specs.Rows.{row_of}
use Rattle.parity.specs.Parity.{differs, distinct}

-- in a list of distinct values, the row found for the value of a row is that row
pub row_of_at : (l : List ℕ) (i : ℕ) → distinct l ≡ true → i < length l → row_of (get_or l i 0) l ≡ i
unfolding row_of distinct
row_of_at [] i d h = absurd (not-suc-le-zero h)
row_of_at (y ∷ l) zero d h = rw (eq-eqb y y refl)
row_of_at (y ∷ l) (suc i) d h =
    let k : i < length l = le_of_suc-le-suc h in
    let f = not-true (eqb (get_or l i 0) y) (all_member (differs y) (get_or l i 0) l (both_left (all_of (differs y) l) (distinct l) d) (member_at l i k)) in
    let n : eqb y (get_or l i 0) ≡ false = ne_eqb y (get_or l i 0) (λ e. false≢true (sym f ∙ eq-eqb (get_or l i 0) y (sym e))) in
    rw n (ap suc (row_of_at l i (both_right (all_of (differs y) l) (distinct l) d) k))
