-- The invariant: each marked byte passed is among those collected.
use Rattle.std.proofs.Common.{◌≡◌, ℕ, ◌≤◌, ◌<◌, true, false, length, take, get_or}
use mathlib.Core.List.{Memᴰ}
use Rattle.solver.proofs.prospects.collected.Given as goal

abbrev pub invariant-loop-g : goal.invariant-loop-g
invariant-loop-g l =
    (l.count ≤ l.g) × (length l.bytes ≡ 256)
    × ((x : ℕ) → x < l.g → get_or l.listed x false ≡ true → Memᴰ x (take l.count l.bytes))
