-- Inversions are counted by their earlier row, modulo 2. Invariant: the current bit plus the inversions of the rows from i on has the
-- parity of all inversions.
use mathlib.Core.Path.{◌≡◌}
use mathlib.Core.List.{map}
use Prim.Native.Nat.{◌≤◌, ◌+◌, ◌%◌}
use Rattle.table.specs.Rows.{value_of}
use Rattle.parity.specs.Parity.{inversions}
use Rattle.parity.proofs.permuting.Values.{from}
use Rattle.parity.proofs.inverting.inversion_parity.Given as goal

abbrev pub invariant-loop-i : goal.invariant-loop-i
invariant-loop-i l = (l.odd ≤ 1) × ((l.odd + inversions (from l.rows l.i)) % 2 ≡ inversions (map value_of l.rows) % 2)
