-- How many controls a job can allow, and how many wires a record can have.
use mathlib.Core.Bool.{Bool, true, false}
use mathlib.Core.Logic.{⊎_elim}
use mathlib.Core.List.{List}
use Prim.Native.Nat.{ℕ, ◌≤◌}
use native.Mathlib.Omega.{arith}
use Rattle.logic.specs.Rules.{pick}
use Rattle.table.specs.layouts.Layouts.{Width}
use Rattle.record.specs.job_fields.Jobs.{data_wires, ancillas, wires}

-- a job allows two controls or three
pub two_or_three : (more : Bool) → (2 ≤ pick more 3 2) × (pick more 3 2 ≤ 3)
two_or_three true = (omega arith, omega arith)
two_or_three false = (omega arith, omega arith)

-- a record has three to five wires
pub three_to_five : (r : List ℕ) → Width (data_wires r) → ancillas r ≤ 1 → (3 ≤ wires r) × (wires r ≤ 5)
unfolding wires
three_to_five r w m = ⊎_elim (λ e. (omega arith, omega arith)) (λ e. (omega arith, omega arith)) w
