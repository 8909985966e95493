-- Lines of document 01, and numbers at the ends of their places.
use mathlib.Core.Path.{◌≡◌, refl}
use mathlib.Core.List.{[], ◌∷◌, map}
use Rattle.logic.specs.Words.{bytes}
use Rattle.text.specs.pieces.Text.{place, decimal, spaced, hex_digit, hex_of, refused_line, found_line}

-- the line has no ready times
pub found_sample : found_line (record { gates = 3; cost = 3; depth = 3; ready0 = 3; ready1 = 3; ready2 = 0; ready3 = 0; ready4 = 0 })
    (0x60 ∷ 0x18 ∷ 0x03 ∷ 0x02 ∷ 0x21 ∷ 0x02 ∷ [])
    ≡ bytes "found 3 3 3 601803022102\n"
unfolding found_line spaced decimal place hex_of hex_digit
found_sample = refl

pub refused_sample : refused_line 1 ≡ bytes "refused 1\n"
unfolding refused_line decimal place
refused_sample = refl

-- 0, 10 and 65535 in decimal, AF in hexadecimal
pub decimal_samples : map decimal (0 ∷ 10 ∷ 65535 ∷ []) ≡ bytes "0" ∷ bytes "10" ∷ bytes "65535" ∷ []
unfolding decimal place
decimal_samples = refl

pub hex_sample : hex_of (0xAF ∷ []) ≡ bytes "AF"
unfolding hex_of hex_digit
hex_sample = refl
