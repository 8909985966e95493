-- The outputs that a layout reads off an end value, for the theorems on odd tables.
use Rattle.std.specs.Prelude.{ℕ, ◌+◌, ◌*◌}
use Rattle.logic.specs.Bit.{bit_of}
use Rattle.table.specs.layouts.Layouts.{wire_of}

-- the value whose bit j is the bit that v has on the wire of output j
unfoldable pub laid_out : ℕ → ℕ → ℕ
laid_out p v = bit_of (wire_of p 0) v + 2 * bit_of (wire_of p 1) v + 4 * bit_of (wire_of p 2) v + 8 * bit_of (wire_of p 3) v
