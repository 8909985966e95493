-- The bits of a number, each 0 or 1.
use Rattle.std.specs.Prelude.{ℕ, ◌/◌, ◌%◌, ◌^◌}

-- bit i of v; bit 0 is the least significant
abbrev pub bit_of : ℕ → ℕ → ℕ
bit_of i v = v / 2 ^ i % 2
