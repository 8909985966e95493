-- Running a gate list by the published formulas (gate/specs/Published.antt), "gate after gate": each wire gets the bit that they give.
use Rattle.std.specs.Prelude.{List, ℕ, ◌+◌, ◌*◌}
use Rattle.logic.specs.Lists.{along, back}
use Rattle.gate.specs.Published.{published}

-- the value of five wires that have these bits; bit 0 is the least significant
abbrev pub with_bits : (ℕ → ℕ) → ℕ
with_bits bits = bits 0 + 2 * bits 1 + 4 * bits 2 + 8 * bits 3 + 16 * bits 4

-- the value after one gate: wire w has the bit `published b v w`
abbrev pub published_step : ℕ → ℕ → ℕ
published_step b v = with_bits (published b v)

-- from first to last, and from last to first
abbrev pub published_forwards : List ℕ → ℕ → ℕ
published_forwards gs v = along published_step gs v

abbrev pub published_backwards : List ℕ → ℕ → ℕ
published_backwards gs v = back published_step gs v
