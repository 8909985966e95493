-- What is printed, word for word.
use mathlib.Core.Path.{◌≡◌, refl}
use lib.IntN.{pos, negsuc}
use Rattle.logic.specs.Words.{bytes}
use Rattle.text.specs.pieces.Text.{place, decimal}
use Rattle.printed.specs.differences.Differences.{sign, change_line}

pub rises : change_line (pos 1) ≡ bytes "by +1\n"
unfolding change_line sign decimal place
rises = refl

pub stays : change_line (pos 0) ≡ bytes "by 0\n"
unfolding change_line sign decimal place
stays = refl

pub falls : change_line (negsuc 65534) ≡ bytes "by -65535\n"
unfolding change_line sign decimal place
falls = refl
