-- Bits in words: setting one sets it, and clears none.
use mathlib.Core.Path.{◌≡◌, sym, ap, ◌∙◌}
use mathlib.Core.Bool.{Bool, true}
use mathlib.Core.Logic.{⊎_elim}
use mathlib.Core.List.{List}
use Prim.Native.Nat.{ℕ, zero, suc, ◌+◌, ◌*◌, ◌/◌, ◌%◌, ◌^◌, ◌<◌}
use native.Mathlib.Decide.{ℕ_discrete}
use native.Mathlib.Nat.{div_self}
use native.Mathlib.Omega.{arith}
use borrow.Author.Tests.{eqb-true, eq-eqb}
use lib.Bits.{bit_or, or_comm}
use lib.Dec.{eqb, leb}
use lib.ListN.{length, get_or, set, length-set}
use lib.Pow.{pow_pos}
use lib.Seq.{get_or-set_same, get_or-set_other}
use Rattle.logic.specs.Rules.{both}
use Rattle.logic.specs.Bit.{bit_of}
use Rattle.logic.proofs.Chain.{both_true, both_left, both_right, either_cases, either_first, either_second}
use Rattle.logic.proofs.Bits.{bit_or_law}
use Rattle.bloom.specs.bits.Places.{lit_at, Grown}

or_one : (a b : ℕ) → a ≡ 1 → b < 2 → bit_or a b ≡ 1
or_one a zero e h = ap (λ n. bit_or n 0) e
or_one a (suc zero) e h = ap (λ n. bit_or n 1) e
or_one a (suc (suc b)) e h = absurd (omega arith)

bit_stays : (j a b : ℕ) → bit_of j a ≡ 1 → bit_of j (bit_or a b) ≡ 1
bit_stays j a b e = bit_or_law j a b ∙ or_one (bit_of j a) (bit_of j b) e (omega arith)

bit_of_power : (j : ℕ) → bit_of j (2 ^ j) ≡ 1
bit_of_power j = ap (λ (n : ℕ). n % 2) (div_self (pow_pos j))

bit_added : (j a : ℕ) → bit_of j (bit_or a (2 ^ j)) ≡ 1
bit_added j a = ap (bit_of j) (or_comm a (2 ^ j)) ∙ bit_stays j (2 ^ j) a (bit_of_power j)

module _ (l : List ℕ) (k : ℕ) where
  abbrev i : ℕ
  i = k / 4096

  abbrev word : ℕ
  word = bit_or (bit_or (get_or l i 0) (2 ^ (k / 64 % 64))) (2 ^ (k % 64))

  abbrev lighter : List ℕ
  lighter = set l i word

  pub lit_set : i < length l → lit_at lighter k ≡ true
  unfolding lit_at
  lit_set h =
      let e = get_or-set_same l i word 0 h in
      either_second (leb (length lighter) i) (both (eqb (bit_of (k / 64 % 64) (get_or lighter i 0)) 1) (eqb (bit_of (k % 64) (get_or lighter i 0)) 1))
      (rw e (both_true
      (eq-eqb (bit_of (k / 64 % 64) word) 1 (bit_stays (k / 64 % 64) (bit_or (get_or l i 0) (2 ^ (k / 64 % 64))) (2 ^ (k % 64)) (bit_added (k / 64 % 64) (get_or l i 0))))
      (eq-eqb (bit_of (k % 64) word) 1 (bit_added (k % 64) (bit_or (get_or l i 0) (2 ^ (k / 64 % 64)))))))

  bit_kept : i < length l → (j v : ℕ) → eqb (bit_of j (get_or l v 0)) 1 ≡ true → eqb (bit_of j (get_or lighter v 0)) 1 ≡ true
  bit_kept h j v e = eq-eqb (bit_of j (get_or lighter v 0)) 1 (by_word (eqb-true (bit_of j (get_or l v 0)) 1 e) (ℕ_discrete v i))
    where
      by_word : bit_of j (get_or l v 0) ≡ 1 → Dec (v ≡ i) → bit_of j (get_or lighter v 0) ≡ 1
      by_word b (yes q) =
          ap (λ (u : ℕ). bit_of j (get_or lighter u 0)) q
          ∙ ap (bit_of j) (get_or-set_same l i word 0 h)
          ∙ bit_stays j (bit_or (get_or l i 0) (2 ^ (k / 64 % 64))) (2 ^ (k % 64))
          (bit_stays j (get_or l i 0) (2 ^ (k / 64 % 64)) (ap (λ (u : ℕ). bit_of j (get_or l u 0)) (sym q) ∙ b))
      by_word b (no q) = ap (bit_of j) (get_or-set_other l i v word 0 q) ∙ b

  pub grown_set : i < length l → Grown l lighter
  unfolding lit_at
  grown_set h m e =
      ⊎_elim
      (λ (p : leb (length l) (m / 4096) ≡ true). either_first (leb (length lighter) (m / 4096)) now (rw (length-set l i word) p))
      (λ (p : both (eqb (bit_of (m / 64 % 64) (get_or l (m / 4096) 0)) 1) (eqb (bit_of (m % 64) (get_or l (m / 4096) 0)) 1) ≡ true).
      either_second (leb (length lighter) (m / 4096)) now
      (both_true (bit_kept h (m / 64 % 64) (m / 4096) (both_left (eqb (bit_of (m / 64 % 64) (get_or l (m / 4096) 0)) 1) (eqb (bit_of (m % 64) (get_or l (m / 4096) 0)) 1) p)) (bit_kept h (m % 64) (m / 4096) (both_right (eqb (bit_of (m / 64 % 64) (get_or l (m / 4096) 0)) 1) (eqb (bit_of (m % 64) (get_or l (m / 4096) 0)) 1) p))))
      (either_cases (leb (length l) (m / 4096)) (both (eqb (bit_of (m / 64 % 64) (get_or l (m / 4096) 0)) 1) (eqb (bit_of (m % 64) (get_or l (m / 4096) 0)) 1)) e)
    where
      now : Bool
      now = both (eqb (bit_of (m / 64 % 64) (get_or lighter (m / 4096) 0)) 1) (eqb (bit_of (m % 64) (get_or lighter (m / 4096) 0)) 1)

-- five bits as a number
pub spelt : (b : ℕ → ℕ) → ((w : ℕ) → b w < 2) → (w : ℕ) → w < 5 → bit_of w (b 0 + 2 * b 1 + 4 * b 2 + 8 * b 3 + 16 * b 4) ≡ b w
spelt b h zero l = omega (arith, h 0, h 1, h 2, h 3, h 4)
spelt b h (suc zero) l = omega (arith, h 0, h 1, h 2, h 3, h 4)
spelt b h (suc (suc zero)) l = omega (arith, h 0, h 1, h 2, h 3, h 4)
spelt b h (suc (suc (suc zero))) l = omega (arith, h 0, h 1, h 2, h 3, h 4)
spelt b h (suc (suc (suc (suc zero)))) l = omega (arith, h 0, h 1, h 2, h 3, h 4)
spelt b h (suc (suc (suc (suc (suc w))))) l = absurd (omega arith)
