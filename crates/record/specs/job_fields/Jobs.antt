-- The fields of a job record, and the wires of either record.
use Rattle.std.specs.Prelude.{Bool, List, ℕ, ◌+◌, ◌*◌, ◌/◌, ◌%◌, ◌<◌, eqb, length, get_or, drop}
use Rattle.logic.specs.Rules.{either, pick}
use Rattle.circuit.specs.declared.Weights.{Weights}
use Rattle.circuit.specs.Measure.{weight_of}

-- "A job of 22 or 30 bytes has four prices in bytes 6 to 9, four durations in 10 to 13, and the table from 14." (02): the length
-- alone tells the longer record from the shorter one
unfoldable pub longer : List ℕ → Bool
longer job = either (eqb (length job) 22) (eqb (length job) 30)

-- "Three controls are then lawful." (02)
abbrev pub most_controls : List ℕ → ℕ
most_controls job = pick (longer job) 3 2

-- "Byte 0: n in 3 bits, m in 2", in a circuit too
unfoldable pub data_wires : List ℕ → ℕ
data_wires r = get_or r 0 0 / 32

unfoldable pub ancillas : List ℕ → ℕ
ancillas r = get_or r 0 0 / 8 % 4

unfoldable pub wires : List ℕ → ℕ
wires r = data_wires r + ancillas r

-- "free placing in 1 (1 = free)"
unfoldable pub free_layout : List ℕ → ℕ
free_layout job = get_or job 0 0 / 4 % 2

unfoldable pub gate_limit : List ℕ → ℕ
gate_limit job = get_or job 1 0

-- the number in two bytes, "high byte first"
abbrev pub word : List ℕ → ℕ → ℕ
word r i = 256 * get_or r i 0 + get_or r (i + 1) 0

unfoldable pub cost_limit : List ℕ → ℕ
cost_limit job = word job 2

unfoldable pub depth_limit : List ℕ → ℕ
depth_limit job = word job 4

-- the three or four weights from byte i on; where there are three, the fourth is 0, and no lawful gate asks for it
abbrev pub weights_at : Bool → List ℕ → ℕ → Weights
weights_at four r i =
    record { not = get_or r i 0; cnot = get_or r (i + 1) 0; toffoli = get_or r (i + 2) 0; cccnot = pick four (get_or r (i + 3) 0) 0 }

unfoldable pub prices : List ℕ → Weights
prices job = weights_at (longer job) job 6

unfoldable pub durations : List ℕ → Weights
durations job = weights_at (longer job) job (pick (longer job) 10 9)

abbrev pub price_of : List ℕ → ℕ → ℕ
price_of job b = weight_of (prices job) b

abbrev pub duration_of : List ℕ → ℕ → ℕ
duration_of job b = weight_of (durations job) b

-- "Then one byte a row"
abbrev pub rows : List ℕ → List ℕ
rows job = drop (pick (longer job) 14 12) job

-- every number of the list is a byte
abbrev pub Bytes : List ℕ → Type 0
Bytes job = (i : ℕ) → get_or job i 0 < 256
