-- Every gate on four wires with at most three controls, and every layout of four outputs, permutes the rows, with a known parity: computed.
use mathlib.Core.Path.{◌≡◌, refl, sym, ap, ◌∙◌}
use mathlib.Core.Bool.{Bool, true, false, false≢true}
use mathlib.Core.List.{List, [], ◌∷◌, map}
use Prim.Native.Nat.{ℕ, ◌%◌, ◌<◌}
use borrow.Author.Tests.{ltb-true, eqb-true, eq-eqb}
use lib.Dec.{ltb, eqb, lit≤}
use lib.Count.{ones, ones_in}
use Rattle.logic.specs.Rules.{both, implies, all_below}
use Rattle.logic.specs.Lists.{total}
use Rattle.logic.proofs.Chain.{both_left, both_right, implied}
use Rattle.logic.proofs.Below.{below}
use Rattle.gate.specs.Gates.{lawful, step}
use Rattle.gate.proofs.Widen.{lawful_lt}
use Rattle.table.specs.layouts.Layouts.{layout_ok}
use Rattle.parity.specs.Parity.{smaller, inversions}
use Rattle.parity.specs.odd_tables.Ends.{three_controls}
use Rattle.parity.specs.odd_tables.Inner.{laid_out}
use Rattle.parity.proofs.odd_tables.Pairs.{pairs, sorted, pairs_sorted}
use Rattle.parity.proofs.odd_tables.Turning.{rows16, Turning}

-- two lists are equal
abbrev same : List ℕ → List ℕ → Bool
same [] [] = true
same [] (y ∷ m) = false
same (x ∷ l) [] = false
same (x ∷ l) (y ∷ m) = both (eqb x y) (same l m)

same_true : (l m : List ℕ) → same l m ≡ true → l ≡ m
same_true [] [] h = refl
same_true [] (y ∷ m) h = absurd (false≢true h)
same_true (x ∷ l) [] h = absurd (false≢true h)
same_true (x ∷ l) (y ∷ m) h =
    let e = eqb-true x y (both_left (eqb x y) (same l m) h) in
    let r = same_true l m (both_right (eqb x y) (same l m) h) in
    cc

-- the test of a function: its values are rows, different ones for different rows, sorted they are the rows, and its table has the
-- parity of n
abbrev low_at : (ℕ → ℕ) → ℕ → Bool
low_at f x = ltb (f x) 16

abbrev once_at : (ℕ → ℕ) → ℕ → ℕ → Bool
once_at f x y = implies (eqb (f x) (f y)) (eqb x y)

abbrev once_from : (ℕ → ℕ) → ℕ → Bool
once_from f x = all_below 16 (once_at f x)

abbrev sorted_rows : (ℕ → ℕ) → Bool
sorted_rows f = same (sorted (map f rows16)) rows16

abbrev parity_is : (ℕ → ℕ) → ℕ → Bool
parity_is f n = eqb (inversions (map f rows16) % 2) (n % 2)

abbrev turning : (ℕ → ℕ) → ℕ → Bool
turning f n = both (all_below 16 (low_at f)) (both (all_below 16 (once_from f)) (both (sorted_rows f) (parity_is f n)))

-- what follows from the test
tested : (f : ℕ → ℕ) (n : ℕ) → turning f n ≡ true → Turning f n
tested f n h =
    let l = all_below 16 (low_at f) in
    let o = all_below 16 (once_from f) in
    let h₁ = both_right l (both o (both (sorted_rows f) (parity_is f n))) h in
    let h₂ = both_right o (both (sorted_rows f) (parity_is f n)) h₁ in
    let s = same_true (sorted (map f rows16)) rows16 (both_left (sorted_rows f) (parity_is f n) h₂) in
    record {
      low = λ x hx. ltb-true (f x) 16 (below 16 (low_at f) (both_left l (both o (both (sorted_rows f) (parity_is f n))) h) x hx);
      once = λ x y hx hy e.
          eqb-true x y
          (implied (eqb (f x) (f y)) (eqb x y)
          (below 16 (once_at f x) (below 16 (once_from f) (both_left o (both (sorted_rows f) (parity_is f n)) h₁) x hx) y hy)
          (eq-eqb (f x) (f y) e));
      alike = λ D y. sym (pairs_sorted D y (map f rows16)) ∙ ap (pairs D) s;
      parity = eqb-true (inversions (map f rows16) % 2) (n % 2) (both_right (sorted_rows f) (parity_is f n) h₂);
    }

abbrev gate_turns : ℕ → Bool
gate_turns b = implies (lawful 3 4 b) (turning (step b) (three_controls b))

gates_turn : all_below 160 gate_turns ≡ true
unfolding lawful step ones ones_in rows16 inversions smaller total
gates_turn = refl

-- a gate is odd exactly if it has three controls
pub gate : (b : ℕ) → lawful 3 4 b ≡ true → Turning (step b) (three_controls b)
gate b h =
    tested (step b) (three_controls b)
    (implied (lawful 3 4 b) (turning (step b) (three_controls b)) (below 160 gate_turns gates_turn b (lawful_lt 3 4 b (lit≤ tt) h)) h)

abbrev layout_turns : ℕ → Bool
layout_turns p = implies (layout_ok 4 p) (turning (laid_out p) 0)

layouts_turn : all_below 256 layout_turns ≡ true
unfolding layout_ok laid_out rows16 inversions smaller total
layouts_turn = refl

-- every layout is even
pub layout : (p : ℕ) → p < 256 → layout_ok 4 p ≡ true → Turning (laid_out p) 0
layout p hp h = tested (laid_out p) 0 (implied (layout_ok 4 p) (turning (laid_out p) 0) (below 256 layout_turns layouts_turn p hp) h)
