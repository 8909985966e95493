-- Gate lists on bit-sliced columns, as the search runs them.
use Rattle.std.specs.Prelude.{List, ℕ}
use Rattle.logic.specs.Lists.{along}
use Rattle.gate.specs.Gates.{gate_of}
use Rattle.gate.specs.Inner.{column_step}

-- the columns after one gate byte, and after a list
abbrev pub columns_over : ℕ → List ℕ → List ℕ
columns_over b cs = column_step (gate_of b) cs

abbrev pub columns_after : List ℕ → List ℕ → List ℕ
columns_after gs cs = along columns_over gs cs
