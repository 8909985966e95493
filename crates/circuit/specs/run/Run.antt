-- Running a gate list on a value of the wires.
use Rattle.std.specs.Prelude.{List, ℕ}
use Rattle.logic.specs.Lists.{along, back}
use Rattle.gate.specs.Gates.{step}

-- "Running forwards applies the list from first to last, backwards from last to first"
abbrev pub forwards : List ℕ → ℕ → ℕ
forwards gs v = along step gs v

abbrev pub backwards : List ℕ → ℕ → ℕ
backwards gs v = back step gs v
