-- A list of gates on four wires permutes the rows with the parity of its number of three-control gates, and so it does when its outputs
-- are read through a layout.
use mathlib.Core.Path.{◌≡◌, refl, sym, ap, ◌∙◌}
use mathlib.Core.Logic.{◌↔◌}
use mathlib.Core.Bool.{true}
use mathlib.Core.List.{List, [], ◌∷◌, map}
use Prim.Native.Nat.{ℕ, ◌%◌, ◌<◌}
use native.Mathlib.Omega.{arith}
use native.Mathlib.Nat.{add-zero, zero-add}
use borrow.Author.Tests.{ne_eqb}
use lib.Count.{ones}
use Rattle.logic.specs.Lists.{all_of, total, along, numbers_from}
use Rattle.logic.proofs.Chain.{both_left, both_right}
use Rattle.gate.specs.Gates.{mask_of, lawful, step}
use Rattle.gate.proofs.Widen.{parts}
use Rattle.circuit.specs.run.Run.{forwards}
use Rattle.table.specs.layouts.Layouts.{layout_ok}
use Rattle.parity.specs.Parity.{odd, parity_by, inversions}
use Rattle.parity.specs.odd_tables.Ends.{ends_of, three_controls, three_control_gates}
use Rattle.parity.specs.odd_tables.Inner.{laid_out}
use Rattle.parity.proofs.Odd.{odd_when}
use Rattle.parity.proofs.odd_tables.Turning.{rows16, Turning, still, after}
use Rattle.parity.proofs.odd_tables.Gates.{gate, layout}

-- the parities of the gates of a list add up
list : (gs : List ℕ) → all_of (lawful 3 4) gs ≡ true → Turning (forwards gs) (three_control_gates gs)
unfolding all_of along total
list [] h = still
list (b ∷ gs) h =
    after (step b) (forwards gs) (three_controls b) (three_control_gates gs)
    (gate b (both_left (lawful 3 4 b) (all_of (lawful 3 4) gs) h))
    (list gs (both_right (lawful 3 4 b) (all_of (lawful 3 4) gs) h))

-- the parity of a list, and of a list read through a layout
run_parity : (gs : List ℕ) → all_of (lawful 3 4) gs ≡ true → inversions (ends_of gs) % 2 ≡ three_control_gates gs % 2
unfolding rows16
run_parity gs h = (list gs h).parity

pub layout_parity : (gs : List ℕ) (p : ℕ) → all_of (lawful 3 4) gs ≡ true → p < 256 → layout_ok 4 p ≡ true
    → inversions (map (λ x. laid_out p (forwards gs x)) (numbers_from 0 16)) % 2 ≡ three_control_gates gs % 2
unfolding rows16
layout_parity gs p h hp k =
    (after (forwards gs) (laid_out p) (three_control_gates gs) 0 (list gs h) (layout p hp k)).parity
    ∙ ap (λ (n : ℕ). n % 2) (add-zero (three_control_gates gs))

-- "the end permutation of a list is odd exactly when it holds an odd number of three-control gates"
pub odd_exactly : (gs : List ℕ) → all_of (lawful 3 4) gs ≡ true
    → (parity_by (inversions (ends_of gs)) ≡ odd) ↔ (three_control_gates gs % 2 ≡ 1)
odd_exactly gs h =
    let e = run_parity gs h in
    let w = odd_when (inversions (ends_of gs)) in
    (λ o. sym e ∙ w.0 o, λ t. w.1 (e ∙ t))

-- gates of at most two controls: none of them counts
pub none_of_three : (gs : List ℕ) → all_of (lawful 2 4) gs ≡ true → three_control_gates gs ≡ 0
unfolding all_of total
none_of_three [] h = refl
none_of_three (b ∷ gs) h =
    let few = (parts 2 4 b (both_left (lawful 2 4 b) (all_of (lawful 2 4) gs) h)).few in
    rw (ne_eqb (ones (mask_of b)) 3 (λ e. omega arith), zero-add) (none_of_three gs (both_right (lawful 2 4 b) (all_of (lawful 2 4) gs) h))
