-- What change request 8's word on odd tables speaks of: a list's "end permutation" and its "number of three-control gates".
use Rattle.std.specs.Prelude.{List, map, ℕ, eqb}
use Rattle.std.specs.Int.Count.{ones}
use Rattle.logic.specs.Rules.{bit}
use Rattle.logic.specs.Lists.{total, numbers_from}
use Rattle.gate.specs.Gates.{mask_of}
use Rattle.circuit.specs.run.Run.{forwards}

-- "the end permutation of a list" on four data wires without an ancilla: the end value of each row, first row first
abbrev pub ends_of : List ℕ → List ℕ
ends_of gs = map (λ x. forwards gs x) (numbers_from 0 16)

-- 1 for a three-control gate, else 0
abbrev pub three_controls : ℕ → ℕ
three_controls b = bit (eqb (ones (mask_of b)) 3)

-- how many gates of a list have three controls
abbrev pub three_control_gates : List ℕ → ℕ
three_control_gates gs = total three_controls gs
