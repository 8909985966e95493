-- Exclusive or, conjunction and disjunction, bit by bit.
use mathlib.Core.Path.{◌≡◌, sym, ap, ◌∙◌}
use Prim.Native.Nat.{ℕ, zero, suc, ◌*◌, ◌/◌, ◌%◌, ◌^◌, ◌<◌}
use native.Mathlib.Omega.{arith}
use native.Mathlib.Nat.{one-mul}
use native.Mathlib.Numerals.{one-add}
use lib.Dec.{lit<}
use lib.Pow.{shl_exact, pow-add, shr-shr}
use lib.Bits.{bit_and, bit_or, bit_xor, and_shr, and_mod, or_shr, or_mod, xor_shr, xor_mod}
use Rattle.logic.specs.Bit.{bit_of}

pub bit_xor_law : (x a b : ℕ) → bit_of x (bit_xor a b) ≡ bit_xor (bit_of x a) (bit_of x b)
bit_xor_law x a b = ap (λ (n : ℕ). n % 2 ^ 1) (xor_shr a b x) ∙ xor_mod (a / 2 ^ x) (b / 2 ^ x) 1

pub bit_and_law : (x a b : ℕ) → bit_of x (bit_and a b) ≡ bit_and (bit_of x a) (bit_of x b)
bit_and_law x a b = ap (λ (n : ℕ). n % 2 ^ 1) (and_shr a b x) ∙ and_mod (a / 2 ^ x) (b / 2 ^ x) 1

pub bit_or_law : (x a b : ℕ) → bit_of x (bit_or a b) ≡ bit_or (bit_of x a) (bit_of x b)
bit_or_law x a b = ap (λ (n : ℕ). n % 2 ^ 1) (or_shr a b x) ∙ or_mod (a / 2 ^ x) (b / 2 ^ x) 1

-- a one that is shifted within 64 bits
pub shifted_one : (k : ℕ) → k < 64 → 1 * 2 ^ k % 2 ^ 64 ≡ 2 ^ k
shifted_one k h = shl_exact {a = 1} 1 k 64 (lit< tt) (omega arith) ∙ one-mul (2 ^ k)

pub pow-suc : (k : ℕ) → 2 ^ suc k ≡ 2 * 2 ^ k
pow-suc k = ap (λ (n : ℕ). 2 ^ n) (sym (one-add k)) ∙ pow-add 2 1 k

-- a bit above the lowest is a bit of the half
pub bit_half : (x v : ℕ) → bit_of (suc x) v ≡ bit_of x (v / 2)
bit_half x v = ap (λ (n : ℕ). v / 2 ^ n % 2) (sym (one-add x)) ∙ ap (λ (n : ℕ). n % 2) (sym (shr-shr v 1 x))

pub zero_bits : (k v : ℕ) → v < 2 ^ k → ((x : ℕ) → x < k → bit_of x v ≡ 0) → v ≡ 0
zero_bits zero v h z = omega arith
zero_bits (suc k) v h z =
    let l = rw (pow-suc k) at h in
    let e = zero_bits k (v / 2) (omega arith) (λ x hx. sym (bit_half x v) ∙ z (suc x) (omega arith)) in
    omega (arith, z 0 (omega arith))
