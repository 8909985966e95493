-- What is printed, word for word.
use mathlib.Core.Path.{◌≡◌, refl}
use mathlib.Core.List.{[], ◌∷◌}
use lib.Count.{ones, ones_in, count_trailing_zeros, count_leading_zeros}
use Rattle.logic.specs.Words.{bytes}
use Rattle.logic.specs.Lists.{total}
use Rattle.gate.specs.Gates.{gate_of}
use Rattle.circuit.specs.Measure.{weight_of}
use Rattle.text.specs.pieces.Text.{place, decimal, spaced, hex_digit, hex_of}
use Rattle.printed.specs.rewriting.Rewriting.{millions, count_line, rewritten_text}

-- 4,096 of the dearest gates, and what is left of them
pub dear_sample : rewritten_text 4096 1044480 (record { not = 255; cnot = 255; toffoli = 255 }) (67 ∷ 33 ∷ [])
    ≡ bytes "before 4096 1044480\nafter 2 510\n4321\n"
unfolding rewritten_text count_line millions spaced decimal place hex_of hex_digit total weight_of gate_of ones ones_in count_trailing_zeros count_leading_zeros
dear_sample = refl

pub none_sample : rewritten_text 2 100000 (record { not = 1; cnot = 1; toffoli = 5 }) [] ≡ bytes "before 2 100000\nafter 0 0\n\n"
unfolding rewritten_text count_line millions spaced decimal place hex_of total
none_sample = refl
