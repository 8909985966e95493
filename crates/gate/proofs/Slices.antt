-- Columns and values agree: after a gate, bit x of wire w's column is bit w of row x's value.
use mathlib.Core.Path.{◌≡◌, refl, sym, ap, ap₂, ◌∙◌}
use mathlib.Core.Bool.{Bool, true}
use mathlib.Core.List.{List}
use Prim.Native.Nat.{ℕ, zero, suc, ◌*◌, ◌<◌}
use native.Mathlib.Decide.{ℕ_discrete}
use native.Mathlib.Omega.{arith}
use borrow.Author.Tests.{eqb-true, ltb-true, eq-eqb, ne_eqb}
use lib.Dec.{eqb, ltb}
use lib.Bits.{bit_and, bit_xor, and_zero_l}
use lib.ListN.{length, get_or, length-set}
use lib.Seq.{get_or-set_same, get_or-set_other}
use Rattle.logic.specs.Rules.{both}
use Rattle.logic.specs.Bit.{bit_of}
use Rattle.logic.proofs.Chain.{both_left, both_right}
use Rattle.logic.proofs.Below.{below}
use Rattle.logic.proofs.Bits.{bit_xor_law, bit_and_law}
use Rattle.gate.specs.declared.Gate.{Gate}
use Rattle.gate.specs.declared.Kind.{Kind}
use Rattle.gate.specs.declared.Kind.TheVariants.{Not, Cnot, Toffoli, Cccnot}
use Rattle.gate.specs.Gates.{target_of, lawful, step, gate_of}
use Rattle.gate.specs.Published.{added}
use Rattle.gate.specs.Inner.{firing, column_step}
use Rattle.gate.proofs.Widen.{parts}
use Rattle.gate.proofs.Published.{inside, wires_inside, bit_after}

-- row x of the columns is the value v
abbrev pub Row : List ℕ → ℕ → ℕ → Type 0
Row cs x v = (w : ℕ) → w < 5 → bit_of x (get_or cs w 0) ≡ bit_of w v

-- of two bits, the bitwise and is the product
product : (p q : ℕ) → p < 2 → q < 2 → bit_and p q ≡ p * q
product zero q hp hq = and_zero_l q ∙ omega arith
product (suc zero) zero hp hq = refl
product (suc zero) (suc zero) hp hq = refl
product (suc zero) (suc (suc q)) hp hq = absurd (omega arith)
product (suc (suc p)) q hp hq = absurd (omega arith)

abbrev set_bit : ℕ → Bool
set_bit x = eqb (bit_of x 65535) 1

module _ (cs : List ℕ) (x v : ℕ) (hx : x < 16) (row : Row cs x v) where
  and_product : (p q s t : ℕ) → bit_of x p ≡ s → bit_of x q ≡ t → bit_of x (bit_and p q) ≡ s * t
  and_product p q s t e f = bit_and_law x p q ∙ product (bit_of x p) (bit_of x q) (omega arith) (omega arith) ∙ ap₂ ◌*◌ e f

  two_bits : (a b : ℕ) → both (ltb a 5) (ltb b 5) ≡ true → bit_of x (bit_and (get_or cs a 0) (get_or cs b 0)) ≡ bit_of a v * bit_of b v
  two_bits a b i =
      and_product (get_or cs a 0) (get_or cs b 0) (bit_of a v) (bit_of b v)
      (row a (ltb-true a 5 (both_left (ltb a 5) (ltb b 5) i))) (row b (ltb-true b 5 (both_right (ltb a 5) (ltb b 5) i)))

  firing_bit : (k : Kind) → inside k ≡ true → bit_of x (firing k cs) ≡ added k v
  firing_bit Not i = eqb-true (bit_of x 65535) 1 (below 16 set_bit refl x hx)
  firing_bit (Cnot a) i = row a (ltb-true a 5 i)
  firing_bit (Toffoli a b) i = two_bits a b i
  firing_bit (Cccnot a b c) i =
      let two = both (ltb a 5) (ltb b 5) in
      and_product (firing (Toffoli a b) cs) (get_or cs c 0) (bit_of a v * bit_of b v) (bit_of c v)
      (two_bits a b (both_left two (ltb c 5) i)) (row c (ltb-true c 5 (both_right two (ltb c 5) i)))

  module _ (b : ℕ) (h : lawful 3 5 b ≡ true) (hl : length cs ≡ 5) (hv : v < 32) where
    at_target : bit_of x (get_or (column_step (gate_of b) cs) (target_of b) 0) ≡ bit_of (target_of b) (step b v)
    unfolding column_step gate_of
    at_target =
        let ht : target_of b < 5 = (parts 3 5 b h).target in
        ap (bit_of x) (get_or-set_same cs (target_of b) (bit_xor (get_or cs (target_of b) 0) (firing (gate_of b).kind cs)) 0 (omega arith))
        ∙ bit_xor_law x (get_or cs (target_of b) 0) (firing (gate_of b).kind cs)
        ∙ ap₂ bit_xor (row (target_of b) ht) (firing_bit (gate_of b).kind (wires_inside b h))
        ∙ sym (bit_after b h v (target_of b) hv ht ∙ rw (eq-eqb (target_of b) (target_of b) refl))

    elsewhere : (w : ℕ) → w < 5 → (w ≡ target_of b → ⊥) → bit_of x (get_or (column_step (gate_of b) cs) w 0) ≡ bit_of w (step b v)
    unfolding column_step gate_of
    elsewhere w hw n =
        ap (bit_of x) (get_or-set_other cs (target_of b) w (bit_xor (get_or cs (target_of b) 0) (firing (gate_of b).kind cs)) 0 n)
        ∙ row w hw
        ∙ sym (bit_after b h v w hv hw ∙ rw (ne_eqb w (target_of b) n))

    pub row_step : Row (column_step (gate_of b) cs) x (step b v)
    row_step w hw = by_wire (ℕ_discrete w (target_of b))
      where
        by_wire : Dec (w ≡ target_of b) → bit_of x (get_or (column_step (gate_of b) cs) w 0) ≡ bit_of w (step b v)
        by_wire (yes e) = rw e at_target
        by_wire (no n) = elsewhere w hw n

pub length_step : (g : Gate) (cs : List ℕ) → length (column_step g cs) ≡ length cs
unfolding column_step
length_step g cs = length-set cs g.target (bit_xor (get_or cs g.target 0) (firing g.kind cs))
