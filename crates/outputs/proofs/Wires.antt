-- The wires by cases: five columns, three or four of them with outputs.
use mathlib.Core.Logic.{⊎_elim}
use mathlib.Core.Path.{◌≡◌}
use Prim.Native.Nat.{ℕ, zero, suc, ◌≤◌, ◌<◌}
use native.Mathlib.Omega.{arith}
use Rattle.table.specs.layouts.Layouts.{Width}

-- what holds at each number below five holds at any
pub by_five : (P : ℕ → Type 0) → P 0 → P 1 → P 2 → P 3 → P 4 → (w : ℕ) → w < 5 → P w
by_five P a b c d e zero h = a
by_five P a b c d e (suc zero) h = b
by_five P a b c d e (suc (suc zero)) h = c
by_five P a b c d e (suc (suc (suc zero))) h = d
by_five P a b c d e (suc (suc (suc (suc zero)))) h = e
by_five P a b c d e (suc (suc (suc (suc (suc w))))) h = absurd (omega arith)

pub narrow : {n : ℕ} → Width n → n < 5
narrow width = ⊎_elim (λ e. omega arith) (λ e. omega arith) width

pub three_wires : {n : ℕ} → Width n → 3 ≤ n
three_wires width = ⊎_elim (λ e. omega arith) (λ e. omega arith) width

-- a wire that is not past the data wires, and not the ancilla, is one of them
pub data_wire : {n w : ℕ} → Width n → w ≤ n → (n ≡ w → ⊥) → w < 4
data_wire width h f = ⊎_elim (λ e. omega arith) (λ e. omega arith) width
