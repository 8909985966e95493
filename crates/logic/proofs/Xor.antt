-- XOR as addition of bit vectors: it is associative and commutative, a vector cancels itself, and AND distributes over it. Numbers
-- with the same bits are equal.
use mathlib.Core.Path.{◌≡◌, refl, sym, ap, ap₂, ◌∙◌}
use mathlib.Core.Bool.{Bool, true}
use Prim.Native.Nat.{ℕ, zero, suc, ◌+◌, ◌/◌, ◌≤◌, ◌<◌}
use native.Mathlib.Omega.{arith}
use borrow.Author.Tests.{eqb-true}
use lib.Bits.{bit_and, bit_xor, and_comm, xor_comm, xor_self, xor_zero_r}
use lib.Dec.{eqb}
use Rattle.logic.specs.Rules.{all_below}
use Rattle.logic.specs.Bit.{bit_of}
use Rattle.logic.proofs.Below.{below}
use Rattle.logic.proofs.Bits.{bit_xor_law, bit_and_law, bit_half}

same_below : (k a b : ℕ) → a ≤ k → b ≤ k → ((x : ℕ) → bit_of x a ≡ bit_of x b) → a ≡ b
same_below zero a b ha hb h = omega arith
same_below (suc k) a b ha hb h =
    let e = same_below k (a / 2) (b / 2) (omega arith) (omega arith) (λ x. sym (bit_half x a) ∙ h (suc x) ∙ bit_half x b) in
    omega (arith, h 0)

pub same_bits : (a b : ℕ) → ((x : ℕ) → bit_of x a ≡ bit_of x b) → a ≡ b
same_bits a b h = same_below (a + b) a b (omega arith) (omega arith) h

-- the laws at one bit, by computation
abbrev grouped : ℕ → ℕ → ℕ → Bool
grouped a b c = eqb (bit_xor (bit_xor a b) c) (bit_xor a (bit_xor b c))

abbrev shared : ℕ → ℕ → ℕ → Bool
shared c a b = eqb (bit_and c (bit_xor a b)) (bit_xor (bit_and c a) (bit_and c b))

abbrev gathered : ℕ → ℕ → ℕ → Bool
gathered a b c = eqb (bit_and (bit_and a b) c) (bit_and a (bit_and b c))

module _ (f : ℕ → ℕ → ℕ → Bool) where
  abbrev third : ℕ → ℕ → Bool
  third a b = all_below 2 (f a b)

  abbrev second : ℕ → Bool
  second a = all_below 2 (third a)

  three_bits : all_below 2 second ≡ true → (a b c : ℕ) → a < 2 → b < 2 → c < 2 → f a b c ≡ true
  three_bits t a b c ha hb hc = below 2 (f a b) (below 2 (third a) (below 2 second t a ha) b hb) c hc

pub xor_assoc : (a b c : ℕ) → bit_xor (bit_xor a b) c ≡ bit_xor a (bit_xor b c)
xor_assoc a b c =
    same_bits (bit_xor (bit_xor a b) c) (bit_xor a (bit_xor b c))
    (λ x. bit_xor_law x (bit_xor a b) c
    ∙ ap (λ n. bit_xor n (bit_of x c)) (bit_xor_law x a b)
    ∙ eqb-true (bit_xor (bit_xor (bit_of x a) (bit_of x b)) (bit_of x c)) (bit_xor (bit_of x a) (bit_xor (bit_of x b) (bit_of x c)))
    (three_bits grouped refl (bit_of x a) (bit_of x b) (bit_of x c) (omega arith) (omega arith) (omega arith))
    ∙ ap (bit_xor (bit_of x a)) (sym (bit_xor_law x b c))
    ∙ sym (bit_xor_law x a (bit_xor b c)))

pub and_xor : (c a b : ℕ) → bit_and c (bit_xor a b) ≡ bit_xor (bit_and c a) (bit_and c b)
and_xor c a b =
    same_bits (bit_and c (bit_xor a b)) (bit_xor (bit_and c a) (bit_and c b))
    (λ x. bit_and_law x c (bit_xor a b)
    ∙ ap (bit_and (bit_of x c)) (bit_xor_law x a b)
    ∙ eqb-true (bit_and (bit_of x c) (bit_xor (bit_of x a) (bit_of x b)))
    (bit_xor (bit_and (bit_of x c) (bit_of x a)) (bit_and (bit_of x c) (bit_of x b)))
    (three_bits shared refl (bit_of x c) (bit_of x a) (bit_of x b) (omega arith) (omega arith) (omega arith))
    ∙ ap₂ bit_xor (sym (bit_and_law x c a)) (sym (bit_and_law x c b))
    ∙ sym (bit_xor_law x (bit_and c a) (bit_and c b)))

pub and_assoc : (a b c : ℕ) → bit_and (bit_and a b) c ≡ bit_and a (bit_and b c)
and_assoc a b c =
    same_bits (bit_and (bit_and a b) c) (bit_and a (bit_and b c))
    (λ x. bit_and_law x (bit_and a b) c
    ∙ ap (λ n. bit_and n (bit_of x c)) (bit_and_law x a b)
    ∙ eqb-true (bit_and (bit_and (bit_of x a) (bit_of x b)) (bit_of x c)) (bit_and (bit_of x a) (bit_and (bit_of x b) (bit_of x c)))
    (three_bits gathered refl (bit_of x a) (bit_of x b) (bit_of x c) (omega arith) (omega arith) (omega arith))
    ∙ ap (bit_and (bit_of x a)) (sym (bit_and_law x b c))
    ∙ sym (bit_and_law x a (bit_and b c)))

-- the last two of three terms exchanged
pub xor_swap : (a b c : ℕ) → bit_xor (bit_xor a b) c ≡ bit_xor (bit_xor a c) b
xor_swap a b c = xor_assoc a b c ∙ ap (bit_xor a) (xor_comm b c) ∙ sym (xor_assoc a c b)

pub xor_cancel : (a b : ℕ) → bit_xor (bit_xor a b) b ≡ a
xor_cancel a b = xor_assoc a b b ∙ ap (bit_xor a) (xor_self b) ∙ xor_zero_r a

-- a common term cancels
pub xor_both : (a b c : ℕ) → bit_xor (bit_xor a c) (bit_xor b c) ≡ bit_xor a b
xor_both a b c = sym (xor_assoc (bit_xor a c) b c) ∙ ap (λ n. bit_xor n c) (xor_swap a c b) ∙ xor_cancel (bit_xor a b) c

-- numbers whose XOR is 0 are equal
pub xor_none : (a b : ℕ) → bit_xor a b ≡ 0 → a ≡ b
xor_none a b h = sym (xor_cancel a b) ∙ ap (λ n. bit_xor n b) h

-- a map that is linear: it takes an XOR to an XOR
abbrev pub Linear : (ℕ → ℕ) → Type 0
Linear f = (a b : ℕ) → f (bit_xor a b) ≡ bit_xor (f a) (f b)

pub linear_zero : (f : ℕ → ℕ) → Linear f → f 0 ≡ 0
linear_zero f h = h 0 0 ∙ xor_self (f 0)

-- if XOR with f turns c into v on the bits of k, then f is, on those bits, where c and v differ
pub xor_mends : (k c f v : ℕ) → bit_and (bit_xor (bit_xor c f) v) k ≡ 0 → bit_and f k ≡ bit_and (bit_xor c v) k
xor_mends k c f v h =
    and_comm f k
    ∙ sym (xor_none (bit_and k (bit_xor c v)) (bit_and k f)
    (sym (and_xor k (bit_xor c v) f) ∙ ap (bit_and k) (xor_swap c v f) ∙ and_comm k (bit_xor (bit_xor c f) v) ∙ h))
    ∙ and_comm k (bit_xor c v)
