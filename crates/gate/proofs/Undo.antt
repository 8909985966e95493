-- A lawful gate undoes itself, and a value below 2^W stays below it.
use mathlib.Core.Path.{◌≡◌, refl}
use mathlib.Core.Bool.{Bool, true, false}
use Prim.Native.Nat.{ℕ, ◌^◌, ◌≤◌, ◌<◌}
use native.Mathlib.Nat.{lt_of_lt_of_le}
use native.Mathlib.Omega.{arith}
use borrow.Author.Tests.{eqb-true}
use lib.Dec.{eqb}
use lib.Bits.{bit_xor, xor_lt}
use lib.Count.{ones, ones_in}
use lib.Pow.{pow-lt, pow_mono}
use Rattle.logic.specs.Rules.{implies, all_below, pick}
use Rattle.logic.proofs.Chain.{implied}
use Rattle.logic.proofs.Below.{below}
use Rattle.gate.specs.Gates.{target_of, mask_of, fires, lawful, step}
use Rattle.gate.proofs.Widen.{parts, widen, any_controls, lawful_lt}

abbrev comes_back : ℕ → ℕ → Bool
comes_back b v = eqb (step b (step b v)) v

abbrev undoes : ℕ → Bool
undoes b = implies (lawful 5 5 b) (all_below 32 (comes_back b))

undoes_all : all_below 160 undoes ≡ true
unfolding lawful step ones ones_in
undoes_all = refl

pub undo : (k w b v : ℕ) → w ≤ 5 → lawful k w b ≡ true → v < 2 ^ w → step b (step b v) ≡ v
undo k w b v hw h hv =
    eqb-true (step b (step b v)) v
    (below 32 (comes_back b)
    (implied (lawful 5 5 b) (all_below 32 (comes_back b)) (below 160 undoes undoes_all b (lawful_lt k w b hw h))
    (widen 5 w 5 5 b (omega arith) hw (any_controls k w b hw h)))
    v (lt_of_lt_of_le hv (pow_mono hw)))

pub stay : (k w b v : ℕ) → lawful k w b ≡ true → v < 2 ^ w → step b v < 2 ^ w
unfolding step
stay k w b v h hv = either_way (fires (mask_of b) v)
  where
    either_way : (t : Bool) → pick t (bit_xor v (2 ^ target_of b)) v < 2 ^ w
    either_way true = xor_lt w v (2 ^ target_of b) hv (pow-lt (parts k w b h).target)
    either_way false = hv
