-- The rest of a list from an index on: as the slice up to the end or, past the end, as an empty slice.
use mathlib.Core.Path.{◌≡◌, sym}
use mathlib.Core.List.{List}
use Prim.Native.Nat.{ℕ, ◌-◌, ◌<◌}
use native.Mathlib.Nat.{le_of_lt}
use native.Mathlib.Omega.{arith}
use lib.ListN.{length, take, drop, length-drop, drop_of_length-le}
use lib.Seq.{take_all}

pub part : (l : List ℕ) (k : ℕ) → take (length l - k) (drop k l) ≡ drop k l
part l k = take_all (length l - k) (drop k l) (omega (arith, length-drop k l))

pub no_part : (l : List ℕ) (k : ℕ) → length l < k → take 0 l ≡ drop k l
no_part l k h = sym (drop_of_length-le l (le_of_lt h))
