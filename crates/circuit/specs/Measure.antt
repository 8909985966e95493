-- The measures of a gate list, as document 01 defines them under 'Three measures', for any price and any duration of a gate byte. The
-- measure "Gates" needs no definition: it is the length of the list.
use Rattle.std.specs.Prelude.{List, [], ◌∷◌, ℕ, ◌+◌, max, get_or, set}
use Rattle.logic.specs.Lists.{total, along}
use Rattle.gate.specs.declared.Gate.{Gate}
use Rattle.gate.specs.declared.Kind.{Kind}
use Rattle.gate.specs.declared.Kind.TheVariants.{Not, Cnot, Toffoli, Cccnot}
use Rattle.gate.specs.Gates.{gate_of}
use Rattle.circuit.specs.declared.Weights.{Weights}

-- the weight (price or duration) of a kind of gate, and of a gate byte
abbrev pub weight_for : Weights → Kind → ℕ
weight_for ws Not = ws.not
weight_for ws (Cnot a) = ws.cnot
weight_for ws (Toffoli a b) = ws.toffoli
weight_for ws (Cccnot a b c) = ws.cccnot

unfoldable pub weight_of : Weights → ℕ → ℕ
weight_of ws b = weight_for ws (gate_of b).kind

-- "the sum of the prices of its gates"
abbrev pub cost : (ℕ → ℕ) → List ℕ → ℕ
cost price gs = total price gs

-- "a gate starts when all its wires, controls included, are free"; the ready time of a wire is the time from which it is free
abbrev pub controls_ready : Kind → List ℕ → ℕ
controls_ready Not ts = 0
controls_ready (Cnot a) ts = get_or ts a 0
controls_ready (Toffoli a b) ts = max (get_or ts a 0) (get_or ts b 0)
controls_ready (Cccnot a b c) ts = max (max (get_or ts a 0) (get_or ts b 0)) (get_or ts c 0)

abbrev pub start : Gate → List ℕ → ℕ
start g ts = max (get_or ts g.target 0) (controls_ready g.kind ts)

-- "and holds them for its kind's duration"
abbrev pub hold_controls : Kind → ℕ → List ℕ → List ℕ
hold_controls Not e ts = ts
hold_controls (Cnot a) e ts = set ts a e
hold_controls (Toffoli a b) e ts = set (set ts a e) b e
hold_controls (Cccnot a b c) e ts = set (set (set ts a e) b e) c e

unfoldable pub hold : Gate → ℕ → List ℕ → List ℕ
hold g d ts = set (hold_controls g.kind (start g ts + d) ts) g.target (start g ts + d)

-- "each wire is free from time 0"
abbrev pub idle : List ℕ
idle = 0 ∷ 0 ∷ 0 ∷ 0 ∷ 0 ∷ []

-- the ready times after one more gate byte
abbrev pub hold_byte : (ℕ → ℕ) → ℕ → List ℕ → List ℕ
hold_byte duration b ts = hold (gate_of b) (duration b) ts

-- the ready times of the five wires after the list
abbrev pub ready_times : (ℕ → ℕ) → List ℕ → List ℕ
ready_times duration gs = along (hold_byte duration) gs idle

unfoldable pub greatest : List ℕ → ℕ
greatest [] = 0
greatest (t ∷ ts) = max t (greatest ts)

-- "the latest time at which a wire becomes free, 0 for the empty list"
abbrev pub depth : (ℕ → ℕ) → List ℕ → ℕ
depth duration gs = greatest (ready_times duration gs)
