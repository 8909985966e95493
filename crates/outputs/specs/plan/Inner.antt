-- The plan as the code works it out, digit by digit.
use Rattle.std.specs.Prelude.{List, ℕ, ◌+◌, ◌*◌, ◌/◌, eqb, get_or}
use Rattle.logic.specs.Rules.{both, pick, bit}
use Rattle.columns.specs.declared.Wanted.{Wanted}
use Rattle.columns.specs.Wanted.{fitting}
use Rattle.outputs.specs.Owed.{spoilt}
use Rattle.outputs.specs.declared.plan.Plan.{Plan}
use Rattle.outputs.specs.plan.Plan.{digits, alone_bit}

-- the data wires that do not miss output j, a bit each
unfoldable pub places_of : Wanted → List ℕ → ℕ → ℕ → ℕ
places_of t cs n j =
    bit (fitting t (get_or cs 0 0) j) + 2 * bit (fitting t (get_or cs 1 0) j)
    + 4 * bit (fitting t (get_or cs 2 0) j) + 8 * bit (both (eqb n 4) (fitting t (get_or cs 3 0) j))

-- a digit for each target: 1 if no wire but the target is in the set
unfoldable pub spread_of : ℕ → ℕ
spread_of m = pick (eqb m 0) 69905 (pick (eqb m 1) 1 (pick (eqb m 2) 16 (pick (eqb m 4) 256 (pick (eqb m 8) 4096 0))))

-- a digit for each target: 1 if output j is alone for it
unfoldable pub spots_of : Wanted → List ℕ → ℕ → ℕ → ℕ → ℕ
spots_of t cs n free j = digits (λ wire. alone_bit t cs n free wire j)

-- a digit for each target: 1 if the ancilla is spoilt for it
unfoldable pub spoilt_spots : List ℕ → ℕ → ℕ
spoilt_spots cs n = digits (λ wire. bit (spoilt cs n wire))

-- the plan, from the digits of the four outputs and of the ancilla, and 1 if the ancilla is not 0
abbrev pub packed : ℕ → ℕ → ℕ → ℕ → ℕ → ℕ → Plan
packed a b c d e dirty = record { sets = a + 2 * b + 4 * c + 8 * d; sizes = a + b + c + d + e; lost = (a + b + c + d) / 65536 + dirty }
