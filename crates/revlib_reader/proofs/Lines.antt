-- A gate line by its first word.
use Rattle.std.proofs.Common.{◌≡◌, refl, false, List, ℕ, zero, suc, None}
use Rattle.revlib.specs.Grammar.{line_ok}
use Rattle.revlib.specs.Reading.{announced, line_at}
use Rattle.revlib_reader.specs.keywords.Words.{count_said}

-- where the first word announces no letters there is no gate line
pub unannounced : (ls s : List ℕ) → count_said (announced s) ≡ None → line_ok ls (line_at s) ≡ false
unfolding line_at line_ok
unannounced ls s e = let n = none_said (announced s) e in rw n
  where
    none_said : (n : ℕ) → count_said n ≡ None → n ≡ 0
    none_said zero e = refl
    none_said (suc n) e = cc
