-- What is taken for text could not have been a circuit record.
use mathlib.Core.Path.{◌≡◌}
use mathlib.Core.Bool.{Bool, true, false, false≢true}
use mathlib.Core.List.{List, [], ◌∷◌}
use Prim.Native.Nat.{ℕ}
use native.Mathlib.Omega.{arith}
use borrow.Author.Tests.{eqb-true}
use lib.Dec.{eqb}
use Rattle.logic.specs.Rules.{pick}
use Rattle.logic.proofs.Chain.{both_left}
use Rattle.record.specs.job_fields.Jobs.{data_wires}
use Rattle.record.specs.circuit_rules.CircuitRules.{circuit_length_ok, shape_ok, circuit_code}
use Rattle.revlib.specs.Reading.{starts}
use Rattle.printed.specs.files.Files.{is_text}

refused_so : (sized : Bool) → ◌≡◌ {A = ℕ} (pick sized 8 7) 0 → ⊥
refused_so true h = omega arith
refused_so false h = omega arith

-- a full stop would be one data wire
stop_no_record : (rest : List ℕ) → circuit_code (46 ∷ rest) ≡ 0 → ⊥
unfolding circuit_code shape_ok data_wires
stop_no_record rest h = refused_so (circuit_length_ok (46 ∷ rest)) h

pub text_no_record : (file : List ℕ) → is_text file ≡ true → circuit_code file ≡ 0 → ⊥
unfolding is_text starts
text_no_record [] t h = false≢true t
text_no_record (y ∷ rest) t h =
    let e : y ≡ 46 = eqb-true y 46 (both_left (eqb y 46) _ t) in
    stop_no_record rest (rw e at h)
