-- Gates on bit-sliced columns, as the search runs them: one number per wire, whose bit x is the wire's value in row x.
use Rattle.std.specs.Prelude.{List, ℕ, get_or, set}
use Rattle.std.specs.Int.Bits.{bit_and, bit_xor}
use Rattle.gate.specs.declared.Gate.{Gate}
use Rattle.gate.specs.declared.Kind.{Kind}
use Rattle.gate.specs.declared.Kind.TheVariants.{Not, Cnot, Toffoli, Cccnot}

-- the rows in which all controls are 1
abbrev pub firing : Kind → List ℕ → ℕ
firing Not cs = 65535
firing (Cnot a) cs = get_or cs a 0
firing (Toffoli a b) cs = bit_and (get_or cs a 0) (get_or cs b 0)
firing (Cccnot a b c) cs = bit_and (bit_and (get_or cs a 0) (get_or cs b 0)) (get_or cs c 0)

-- the columns after one gate: the target flips in the rows in which all controls are 1
unfoldable pub column_step : Gate → List ℕ → List ℕ
column_step g cs = set cs g.target (bit_xor (get_or cs g.target 0) (firing g.kind cs))
