-- Bounds that hold because a job consists of bytes: on one price or duration, and on their sum over a gate list; and a test for bytes.
use mathlib.Core.Path.{◌≡◌, refl, sym, subst}
use mathlib.Core.Bool.{Bool, true, false}
use mathlib.Core.List.{List, [], ◌∷◌}
use Prim.Native.Nat.{ℕ, ◌+◌, ◌*◌, ◌≤◌, ◌<◌}
use native.Mathlib.Omega.{arith}
use borrow.Author.Tests.{ltb-true, ltb-false}
use lib.Dec.{ltb}
use lib.ListN.{length, get_or, get_or-eq_default}
use Rattle.logic.specs.Rules.{pick}
use Rattle.logic.specs.Lists.{all_of, total}
use Rattle.logic.proofs.Fold.{all_at}
use Rattle.gate.specs.declared.Kind.{Kind}
use Rattle.gate.specs.declared.Kind.TheVariants.{Not, Cnot, Toffoli, Cccnot}
use Rattle.gate.specs.Gates.{gate_of}
use Rattle.circuit.specs.Measure.{weight_for, weight_of}
use Rattle.record.specs.job_fields.Jobs.{longer, weights_at, prices, price_of, Bytes}

-- no price or duration is above 255, so those of twelve gates add up to at most 3,060
pub weight_small : (four : Bool) (job : List ℕ) (i : ℕ) → Bytes job → (κ : Kind) → weight_for (weights_at four job i) κ ≤ 255
weight_small four job i small Not = omega (arith, small i)
weight_small four job i small (Cnot a) = omega (arith, small (i + 1))
weight_small four job i small (Toffoli a b) = omega (arith, small (i + 2))
weight_small four job i small (Cccnot a b c) = picked four
  where
    picked : (t : Bool) → pick t (get_or job (i + 3) 0) 0 ≤ 255
    picked true = omega (arith, small (i + 3))
    picked false = omega arith

pub price_small : (job : List ℕ) → Bytes job → (b : ℕ) → price_of job b ≤ 255
unfolding prices weight_of
price_small job small b = weight_small (longer job) job 6 small (gate_of b).kind

pub total_small : (f : ℕ → ℕ) → ((b : ℕ) → f b ≤ 255) → (l : List ℕ) → total f l ≤ 255 * length l
unfolding total
total_small f h [] = omega arith
total_small f h (b ∷ l) = omega (arith, h b, total_small f h l)

abbrev pub is_byte : ℕ → Bool
is_byte b = ltb b 256

-- a list whose every number is tested to be a byte, as those of a sample are
pub bytes_of : (l : List ℕ) → all_of is_byte l ≡ true → Bytes l
bytes_of l h i = by_place (ltb i (length l)) refl
  where
    by_place : (t : Bool) → ltb i (length l) ≡ t → get_or l i 0 < 256
    by_place true e = ltb-true (get_or l i 0) 256 (all_at is_byte l i 0 h (ltb-true i (length l) e))
    by_place false e = subst (λ (b : ℕ). b < 256) (sym (get_or-eq_default l 0 (ltb-false i (length l) e))) (omega arith)
