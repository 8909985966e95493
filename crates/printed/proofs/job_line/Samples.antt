-- What is printed of an answer, word for word.
use mathlib.Core.Path.{◌≡◌, refl}
use mathlib.Core.List.{[], ◌∷◌}
use Rattle.logic.specs.Answers.{refused, answered}
use Rattle.logic.specs.Words.{bytes}
use Rattle.text.specs.pieces.Text.{place, decimal, spaced, hex_digit, hex_of, refused_line, found_line}
use Rattle.printed.specs.job_line.Lines.{line_for}

pub found_printed : line_for (answered (record {
  bytes = 0x60 ∷ 0x18 ∷ 0x03 ∷ 0x02 ∷ 0x21 ∷ 0x02 ∷ [];
  measures = record { gates = 3; cost = 3; depth = 3; ready0 = 3; ready1 = 3; ready2 = 0; ready3 = 0; ready4 = 0 };
})) ≡ bytes "found 3 3 3 601803022102\n"
unfolding found_line spaced decimal place hex_of hex_digit
found_printed = refl

pub none_printed : line_for (refused 14) ≡ bytes "refused 14\n"
unfolding refused_line decimal place
none_printed = refl
