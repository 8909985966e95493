-- The front of a window's job. No public contract cites this.
use Rattle.std.specs.Prelude.{List, [], ◌∷◌, ℕ, ◌*◌}
use Rattle.peephole.specs.declared.windows.Prices.{Prices}

-- the twelve bytes before the table: n wires, a limit of `len` gates, the greatest limits on cost and depth, the prices, and durations of 1
abbrev pub job_head : ℕ → Prices → ℕ → List ℕ
job_head n p len = 32 * n ∷ len ∷ 255 ∷ 255 ∷ 255 ∷ 255 ∷ p.not ∷ p.cnot ∷ p.toffoli ∷ 1 ∷ 1 ∷ 1 ∷ []
