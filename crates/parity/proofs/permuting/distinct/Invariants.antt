-- Each row is compared with those after it. Invariant: the values from i on are distinct exactly if all are.
use mathlib.Core.Path.{◌≡◌}
use mathlib.Core.List.{map}
use Rattle.table.specs.Rows.{value_of}
use Rattle.parity.specs.Parity.{distinct}
use Rattle.parity.proofs.permuting.Values.{from}
use Rattle.parity.proofs.permuting.distinct.Given as goal

abbrev pub invariant-loop-i : goal.invariant-loop-i
invariant-loop-i l = distinct (from l.rows l.i) ≡ distinct (map value_of l.rows)
