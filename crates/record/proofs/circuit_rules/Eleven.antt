-- The refusal code 11 cannot occur (change request 9). A circuit's rules give the same code with the question behind 11 as without it: a
-- record of at most 15 bytes whose count byte is its length less 3 has at most 12 gates.
use mathlib.Core.Path.{◌≡◌, refl}
use mathlib.Core.Bool.{Bool, true, false}
use mathlib.Core.List.{List}
use Prim.Native.Nat.{ℕ, ◌-◌}
use native.Mathlib.Omega.{arith}
use borrow.Author.Tests.{eqb-true, le-leb}
use lib.Dec.{leb}
use lib.ListN.{length}
use Rattle.logic.specs.Rules.{rule}
use Rattle.logic.proofs.Chain.{rule_never}
use Rattle.record.specs.circuit_rules.CircuitRules.{circuit_length_ok, shape_ok, layout_in_order, count_ok, gates_ok, circuit_code}
use Rattle.record.specs.circuit_fields.Circuits.{count_byte}
use Rattle.record.proofs.circuit_rules.Sound.{short_enough}

-- "Is the count at most 12? If not, 11.": the rule that was removed
abbrev count_small : List ℕ → Bool
count_small c = leb (count_byte c) 12

-- a circuit's rules as document 01 lists them, 11 among them
unfoldable pub listed_code : List ℕ → ℕ
listed_code c =
    rule (circuit_length_ok c) 7
    (rule (shape_ok c) 8
    (rule (layout_in_order c) 9
    (rule (count_ok c) 10
    (rule (count_small c) 11
    (rule (gates_ok c) 21 0)))))

-- lengths and the count byte rule it out
few : (c : List ℕ) → circuit_length_ok c ≡ true → count_ok c ≡ true → count_small c ≡ true
few c h k = le-leb (count_byte c) 12 (omega (arith, short_enough c h, eqb-true (count_byte c) (length c - 3) k))

-- a rule that the first and the fourth imply can be left out
left_out : (a b d e f g : Bool) → (a ≡ true → e ≡ true → f ≡ true)
    → rule a 7 (rule b 8 (rule d 9 (rule e 10 (rule f 11 (rule g 21 0))))) ≡ rule a 7 (rule b 8 (rule d 9 (rule e 10 (rule g 21 0))))
left_out false b d e f g h = refl
left_out true false d e f g h = refl
left_out true true false e f g h = refl
left_out true true true false f g h = refl
left_out true true true true f g h = rw (h refl refl)

module _ (c : List ℕ) where
  -- the rules with 11 and those without it give the same code, for all bytes
  pub same_code : listed_code c ≡ circuit_code c
  unfolding listed_code circuit_code
  same_code = left_out (circuit_length_ok c) (shape_ok c) (layout_in_order c) (count_ok c) (count_small c) (gates_ok c) (few c)

  pub circuit_never : circuit_code c ≡ 11 → ⊥
  unfolding circuit_code
  circuit_never =
      rule_never 11 (circuit_length_ok c) 7 _ (λ e. omega arith)
      (rule_never 11 (shape_ok c) 8 _ (λ e. omega arith)
      (rule_never 11 (layout_in_order c) 9 _ (λ e. omega arith)
      (rule_never 11 (count_ok c) 10 _ (λ e. omega arith)
      (rule_never 11 (gates_ok c) 21 0 (λ e. omega arith) (λ e. omega arith)))))

  -- so the rule was never the first one broken
  pub listed_never : listed_code c ≡ 11 → ⊥
  listed_never h = circuit_never (rw same_code at h)
