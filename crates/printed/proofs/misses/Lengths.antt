-- How long the lines of `gazbolk closest` are.
use mathlib.Core.List.{List}
use Prim.Native.Nat.{ℕ, ◌≤◌}
use native.Mathlib.Omega.{arith}
use lib.ListN.{length, length-append}
use Rattle.circuit.specs.declared.measures.Measures.{Measures}
use Rattle.text.proofs.pieces.Pieces.{decimal_short, found_short}
use Rattle.printed.specs.misses.Closeness.{misses_line}
use Rattle.printed.specs.misses.Inner.{both_lines}

pub misses_short : (k : ℕ) → length (misses_line k) ≤ 13
unfolding misses_line
misses_short k = simp length-append (omega (arith, decimal_short k))

pub both_short : (k : ℕ) (m : Measures) (circuit : List ℕ) → length circuit ≤ 15 → length (both_lines k m circuit) ≤ 128
unfolding both_lines
both_short k m circuit h = simp length-append (omega (arith, misses_short k, found_short m circuit h))
