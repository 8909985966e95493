-- The loop goes from the last row to the first: the bits so far are the column of the rows passed.
use Rattle.std.proofs.Common.{◌≡◌, ◌<◌, drop}
use Rattle.columns.specs.Wanted.{column_of, row_bit}
use Rattle.columns.proofs.table_columns.column.Given as goal

abbrev pub invariant-loop-x : goal.invariant-loop-x
invariant-loop-x l = record { fits : l.bits < 65536; is : l.bits ≡ column_of (row_bit l.care l.j) (drop l.x l.rows) }
