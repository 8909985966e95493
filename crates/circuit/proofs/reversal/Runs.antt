-- A list taken backwards inverts what the list does. It is lawful if the list is, and has the same cost and number of gates.
use mathlib.Core.Path.{◌≡◌, ◌∙◌}
use mathlib.Core.Bool.{true}
use mathlib.Core.List.{List, reverse}
use Prim.Native.Nat.{ℕ, ◌^◌, ◌≤◌, ◌<◌}
use lib.ListN.{length, length-reverse}
use Rattle.logic.specs.Lists.{all_of}
use Rattle.gate.specs.Gates.{lawful, step}
use Rattle.circuit.specs.run.Run.{forwards, backwards}
use Rattle.circuit.specs.Measure.{cost}
use Rattle.circuit.proofs.run.Reversal.{undone}
use Rattle.circuit.proofs.reversal.Lists.{along_reverse, total_reverse, all_reverse}

-- running the reversed list forwards is running the list backwards
pub runs_reverse : (gs : List ℕ) (v : ℕ) → forwards (reverse gs) v ≡ backwards gs v
runs_reverse gs v = along_reverse step gs v

pub runs_back : (k w : ℕ) (gs : List ℕ) (v : ℕ) → w ≤ 5 → all_of (lawful k w) gs ≡ true → v < 2 ^ w → forwards (reverse gs) (forwards gs v) ≡ v
runs_back k w gs v hw h hv = runs_reverse gs (forwards gs v) ∙ undone k w gs v hw h hv

-- its lawfulness, cost and number of gates are those of the list
pub lawful_reverse : (k w : ℕ) (gs : List ℕ) → all_of (lawful k w) (reverse gs) ≡ all_of (lawful k w) gs
lawful_reverse k w gs = all_reverse (lawful k w) gs

pub cost_reverse : (price : ℕ → ℕ) (gs : List ℕ) → cost price (reverse gs) ≡ cost price gs
cost_reverse price gs = total_reverse price gs

pub gates_reverse : (gs : List ℕ) → length (reverse gs) ≡ length gs
gates_reverse gs = length-reverse gs
