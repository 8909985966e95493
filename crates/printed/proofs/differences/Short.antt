-- How long the pieces of a comparison are.
use mathlib.Core.Path.{◌≡◌, sym}
use mathlib.Core.Bool.{Bool, true, false}
use mathlib.Core.List.{List, []}
use Prim.Native.Nat.{ℕ, ◌≤◌}
use native.Mathlib.Omega.{arith}
use lib.Dec.{eqb}
use lib.IntN.{ℤ, pos, nat_abs}
use lib.ListN.{length, take, drop, length-append}
use lib.Seq.{take_at}
use lib.Signed.{lt_z}
use Rattle.logic.specs.Rules.{pick}
use Rattle.logic.specs.Words.{bytes}
use Rattle.circuit.specs.declared.measures.Measures.{Measures}
use Rattle.text.specs.pieces.Text.{in_front}
use Rattle.text.proofs.pieces.Pieces.{decimal_short, found_short}
use Rattle.sensitivity.specs.alike.Alike.{cost_difference}
use Rattle.printed.specs.differences.Differences.{sign, change_line}
use Rattle.printed.specs.differences.Differences.{both_lines}

pub sign_short : (d : ℤ) → length (sign d) ≤ 1
unfolding sign
sign_short d = by_tests (lt_z d (pos 0)) (eqb (nat_abs d) 0)
  where
    by_tests : (a b : Bool) → length (pick a (bytes "-") (pick b [] (bytes "+"))) ≤ 1
    by_tests true b = omega arith
    by_tests false true = omega arith
    by_tests false false = omega arith

pub change_short : (d : ℤ) → length (change_line d) ≤ 10
unfolding change_line
change_short d = simp length-append (omega (arith, sign_short d, decimal_short (nat_abs d)))

pub both_short : (m : Measures) (circuit : List ℕ) (k : Measures) (other : List ℕ) → length circuit ≤ 15 → length other ≤ 15
    → length (both_lines m circuit k other) ≤ 256
unfolding both_lines
both_short m circuit k other h j =
    simp length-append
    (omega (arith, change_short (cost_difference m.cost k.cost), found_short m circuit h, found_short k other j))

-- a line that was written into a buffer of its own
pub in_line : (line old new : List ℕ) (size : ℕ) → size ≡ length line → new ≡ in_front line old → take size new ≡ line
in_line line old new size e w = rw w (take_at line (drop (length line) old) size (sym e))
