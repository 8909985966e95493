-- A state is in the filter with all its projections if those with a wire t are in and those without it.
use mathlib.Core.Path.{◌≡◌, sym, ap, ◌∙◌, subst}
use mathlib.Core.Bool.{true}
use mathlib.Core.List.{List}
use Prim.Native.Nat.{ℕ}
use native.Mathlib.Decide.{ℕ_discrete}
use native.Mathlib.Omega.{arith}
use Rattle.bloom.specs.declared.hash.Reach.{Reach}
use Rattle.bloom.specs.hash.Reach.{shares_of, part_of, held, Seen, SeenBut, SeenWithout}
use Rattle.bloom.specs.bits.Places.{key_of, lit_at}
use Rattle.bloom.proofs.hash.Sums.{part_none, part_past, part_swap}

module _ (bits : List ℕ) (r : Reach) (cs : List ℕ) where
  same_held : (a b c d : ℕ) → part_of (shares_of r cs) a b ≡ part_of (shares_of r cs) c d → held bits r.size (shares_of r cs) c d ≡ true
      → held bits r.size (shares_of r cs) a b ≡ true
  same_held a b c d e h = ap (λ (x : ℕ). lit_at bits (key_of r.size x)) e ∙ h

  pub seen_joined : (t : ℕ) → SeenBut t bits r cs → SeenWithout t bits r cs → Seen bits r cs
  seen_joined t but without a b = by_wires (ℕ_discrete a t) (ℕ_discrete b t)
    where
      by_wires : Dec (a ≡ t) → Dec (b ≡ t) → held bits r.size (shares_of r cs) a b ≡ true
      by_wires (yes e) d = subst (λ (w : ℕ). held bits r.size (shares_of r cs) w b ≡ true) (sym e) (without b)
      by_wires (no n) (yes e) = same_held a b b a (part_swap (shares_of r cs) a b) (subst (λ (w : ℕ). held bits r.size (shares_of r cs) w a ≡ true) (sym e) (without a))
      by_wires (no n) (no m) = but a b n m

  -- 9 is no wire: without it a state is whole, and with another wire left out it is the projection without that one
  pub seen_at_first : SeenBut 9 bits r cs → SeenWithout 9 bits r cs
  seen_at_first but b = by_wire (ℕ_discrete b 9)
    where
      by_wire : Dec (b ≡ 9) → held bits r.size (shares_of r cs) 9 b ≡ true
      by_wire (yes e) = same_held 9 b 5 5 (part_none (shares_of r cs) 9 b (omega arith) (omega arith)) (but 5 5 (λ f. omega arith) (λ f. omega arith))
      by_wire (no n) = same_held 9 b 5 b (part_past (shares_of r cs) 9 b (omega arith)) (but 5 b (λ f. omega arith) n)
