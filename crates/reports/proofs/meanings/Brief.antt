-- No sentence has more than 64 bytes.
use mathlib.Core.Path.{◌≡◌, refl}
use mathlib.Core.Bool.{Bool, true, false}
use mathlib.Core.List.{List, [], ◌∷◌}
use Prim.Native.Nat.{ℕ, ◌≤◌}
use native.Mathlib.Omega.{arith}
use borrow.Author.Tests.{leb-true}
use lib.Dec.{leb, eqb}
use lib.ListN.{length}
use Rattle.logic.specs.Rules.{both, pick}
use Rattle.logic.proofs.Chain.{both_left, both_right}
use Rattle.logic.specs.Words.{bytes}
use Rattle.reports.specs.sentences.Meanings.{Meaning, ◌means◌, job_meanings, circuit_meanings, verify_meanings, library_meanings, listing_meanings, other_meanings}
use Rattle.reports.specs.sentences.Meanings.{said, other_meaning, listing_meaning, library_meaning, verify_meaning, circuit_meaning, meaning}

-- of one list
abbrev brief : List Meaning → Bool
brief [] = true
brief ((k means words) ∷ ms) = both (leb (length (bytes words)) 64) (brief ms)

chosen : (hit : Bool) (a b : List ℕ) → length a ≤ 64 → length b ≤ 64 → length (pick hit a b) ≤ 64
chosen true a b h k = h
chosen false a b h k = k

said_short : (n : ℕ) (ms : List Meaning) (rest : List ℕ) → brief ms ≡ true → length rest ≤ 64 → length (said n ms rest) ≤ 64
unfolding said
said_short n [] rest b h = h
said_short n ((k means words) ∷ ms) rest b h =
    let short = leb (length (bytes words)) 64 in
    chosen (eqb n k) (bytes words) (said n ms rest) (leb-true (length (bytes words)) 64 (both_left short (brief ms) b))
    (said_short n ms rest (both_right short (brief ms) b) h)

pub meaning_short : (n : ℕ) → length (meaning n) ≤ 64
unfolding meaning circuit_meaning verify_meaning library_meaning listing_meaning other_meaning
meaning_short n =
    said_short n job_meanings _ refl
    (said_short n circuit_meanings _ refl
    (said_short n verify_meanings _ refl
    (said_short n library_meanings _ refl (said_short n listing_meanings _ refl (said_short n other_meanings _ refl (omega arith))))))
