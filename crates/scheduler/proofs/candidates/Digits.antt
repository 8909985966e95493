-- One digit after a step, and a path that is filled from the front.
use mathlib.Core.Path.{◌≡◌}
use mathlib.Core.Bool.{Bool, true, false}
use mathlib.Core.List.{List}
use Prim.Native.Nat.{ℕ, ◌+◌, ◌<◌, ◌≤◌}
use native.Mathlib.Numerals.{add-one}
use borrow.Author.Tests.{lt-ltb, le-ltb}
use lib.ListN.{length, get_or, set, take}
use lib.Seq.{take-suc, take-suc-set}
use Rattle.scheduler.specs.candidates.Inner.{digit}

module _ (n d : ℕ) (carried : Bool) where
  pub stays : carried ≡ false → d ≡ digit n d carried
  stays h = rw h

  module _ (x : ℕ) (e : x ≡ d) (h : carried ≡ true) where
    pub goes_on : x + 1 < n → x + 1 ≡ digit n d carried
    goes_on k = rw (h, ← e, lt-ltb (x + 1) n k)

    pub goes_back : n ≤ x + 1 → 0 ≡ digit n d carried
    goes_back k = rw (h, ← e, le-ltb (x + 1) n k)

-- one place more is filled as the list has it
pub filled : (list path : List ℕ) (i x : ℕ) → i < length list → i < length path → x ≡ get_or list i 0 → take i path ≡ take i list
    → take (i + 1) (set path i x) ≡ take (i + 1) list
filled list path i x h k e f = rw (add-one, take-suc-set path i x k, take-suc list i 0 h, f, e)
