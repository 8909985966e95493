-- A lawful byte, part by part; what is lawful stays so for more controls and more wires.
use mathlib.Core.Path.{◌≡◌}
use mathlib.Core.Bool.{true}
use Prim.Native.Nat.{ℕ, ◌^◌, ◌≤◌, ◌<◌}
use native.Mathlib.Nat.{le_trans, lt_of_lt_of_le}
use native.Mathlib.Omega.{arith}
use borrow.Author.Tests.{ltb-true, leb-true, eqb-true, lt-ltb, le-leb, eq-eqb}
use lib.Dec.{ltb, leb, eqb}
use lib.Count.{ones, ones-le}
use lib.Pow.{pow_mono}
use Rattle.logic.specs.Rules.{both}
use Rattle.logic.specs.Bit.{bit_of}
use Rattle.logic.proofs.Chain.{both_left, both_right, both_true}
use Rattle.gate.specs.Gates.{target_of, mask_of, lawful}

pub record Lawful (k w b : ℕ) : Type 0 where
  pub target : target_of b < w
  pub mask : mask_of b < 2 ^ w
  pub apart : bit_of (target_of b) (mask_of b) ≡ 0
  pub few : ones (mask_of b) ≤ k

pub parts : (k w b : ℕ) → lawful k w b ≡ true → Lawful k w b
unfolding lawful
parts k w b h =
    let t = ltb (target_of b) w in
    let m = ltb (mask_of b) (2 ^ w) in
    let a = eqb (bit_of (target_of b) (mask_of b)) 0 in
    let f = leb (ones (mask_of b)) k in
    let h₁ = both_right t (both m (both a f)) h in
    let h₂ = both_right m (both a f) h₁ in
    record {
      target = ltb-true (target_of b) w (both_left t (both m (both a f)) h);
      mask = ltb-true (mask_of b) (2 ^ w) (both_left m (both a f) h₁);
      apart = eqb-true (bit_of (target_of b) (mask_of b)) 0 (both_left a f h₂);
      few = leb-true (ones (mask_of b)) k (both_right a f h₂);
    }

pub joined : (k w b : ℕ) → Lawful k w b → lawful k w b ≡ true
unfolding lawful
joined k w b h =
    both_true (lt-ltb _ _ h.target) (both_true (lt-ltb _ _ h.mask) (both_true (eq-eqb _ _ h.apart) (le-leb _ _ h.few)))

pub widen : (k w k' w' b : ℕ) → k ≤ k' → w ≤ w' → lawful k w b ≡ true → lawful k' w' b ≡ true
widen k w k' w' b hk hw h =
    let p = parts k w b h in
    joined k' w' b (record {
      target = omega arith;
      mask = lt_of_lt_of_le p.mask (pow_mono hw);
      apart = p.apart;
      few = le_trans p.few hk;
    })

-- every lawful gate has at most five controls
pub any_controls : (k w b : ℕ) → w ≤ 5 → lawful k w b ≡ true → lawful 5 w b ≡ true
any_controls k w b hw h =
    let p = parts k w b h in
    joined 5 w b (record {
      target = p.target;
      mask = p.mask;
      apart = p.apart;
      few = ones-le 5 (mask_of b) (lt_of_lt_of_le p.mask (pow_mono hw));
    })

pub lawful_lt : (k w b : ℕ) → w ≤ 5 → lawful k w b ≡ true → b < 160
lawful_lt k w b hw h = let p = parts k w b h in let t = p.target in omega arith
