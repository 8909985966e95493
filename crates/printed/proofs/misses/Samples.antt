-- What is printed, word for word.
use mathlib.Core.Path.{◌≡◌, refl}
use Rattle.logic.specs.Words.{bytes}
use Rattle.text.specs.pieces.Text.{place, decimal}
use Rattle.printed.specs.misses.Closeness.{misses_line}

pub none_missed : misses_line 0 ≡ bytes "misses 0\n"
unfolding misses_line decimal place
none_missed = refl

pub all_missed : misses_line 64 ≡ bytes "misses 64\n"
unfolding misses_line decimal place
all_missed = refl
