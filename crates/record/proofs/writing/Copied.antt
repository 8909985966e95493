-- A record written over the start of a buffer.
use mathlib.Core.Path.{◌≡◌}
use mathlib.Core.Bool.{Bool}
use mathlib.Core.List.{List, [], ◌∷◌, ◌++◌}
use Prim.Native.Nat.{ℕ, suc, ◌+◌, ◌-◌, ◌≤◌}
use native.Mathlib.Omega.{arith}
use borrow.Rule.Slice.PartMut.{put_mid, Post-is}
use lib.ListN.{length, take, drop, set}
use lib.Seq.{length-take-le}
use Rattle.record.specs.circuit_fields.Circuits.{circuit_bytes}

-- three bytes, then the gates
pub written : (h p k n : ℕ) (gates answer : List ℕ) → 3 ≤ length answer
    → put_mid 3 (3 + n - 3) (set (set (set answer 0 h) 1 p) 2 k) gates ≡ h ∷ p ∷ k ∷ gates ++ drop (3 + n) answer
written h p k n gates [] s = absurd (omega arith)
written h p k n gates (a ∷ []) s = absurd (omega arith)
written h p k n gates (a ∷ b ∷ []) s = absurd (omega arith)
written h p k n gates (a ∷ b ∷ c ∷ rest) s =
    let e : 3 + n ≡ suc (suc (suc n)) = omega arith in
    rw (Post-is 3 (3 + n) (h ∷ p ∷ k ∷ rest) (omega arith), e)

pub record_size_law : (n m : ℕ) (mark : Bool) (p : ℕ) (path : List ℕ) (len : ℕ) → len ≤ length path → 3 + len ≡ length (circuit_bytes n m mark p (take len path))
unfolding circuit_bytes
record_size_law n m mark p path len small = rw (length-take-le len path small) (omega arith)
