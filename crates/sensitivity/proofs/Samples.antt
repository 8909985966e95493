-- An instance of the promises on prices: two jobs at the highest cost limit, 65,535, whose bytes are 255, alike but for the price of a CNOT.
use mathlib.Core.Path.{◌≡◌, refl}
use mathlib.Core.Logic.{◌↔◌}
use mathlib.Core.List.{List, [], ◌∷◌, map}
use Prim.Native.Nat.{ℕ, ◌+◌}
use Rattle.logic.specs.Answers.{refused}
use Rattle.logic.specs.Lists.{all_of}
use Rattle.table.specs.Rows.{row_ok}
use Rattle.record.specs.JobRules.{job_length_ok, size_ok, head_ok, limit_ok, durations_ok, rows_ok, job_code}
use Rattle.record.specs.job_fields.Jobs.{longer, data_wires, ancillas, gate_limit, cost_limit, durations, Bytes}
use Rattle.record.proofs.job_fields.Small.{bytes_of}
use Rattle.outcomes.specs.Outcomes.{search_of}
use Rattle.sensitivity.specs.alike.Alike.{same_but, alike_but, one_price, comparable, compare_code}
use Rattle.sensitivity.proofs.Facts.{none_together}

-- wires 0 and 1 exchanged on three data wires, with at most two gates and a CNOT at this price
priced : ℕ → List ℕ
priced cnot =
    0x60 ∷ 0x02 ∷ 0xFF ∷ 0xFF ∷ 0xFF ∷ 0xFF ∷ 0x01 ∷ cnot ∷ 0x01 ∷ 0x01 ∷ 0x01 ∷ 0x07
    ∷ map (λ v. 0x70 + v) (0 ∷ 2 ∷ 1 ∷ 3 ∷ 4 ∷ 6 ∷ 5 ∷ 7 ∷ [])

pub cheap_job : List ℕ
cheap_job = priced 1

pub dear_job : List ℕ
dear_job = priced 255

pub both_bytes : Bytes cheap_job × Bytes dear_job
unfolding cheap_job dear_job priced all_of
both_bytes = (bytes_of cheap_job refl, bytes_of dear_job refl)

pub may_compare : compare_code cheap_job dear_job ≡ 0
unfolding cheap_job dear_job priced compare_code comparable one_price alike_but same_but job_code job_length_ok size_ok head_ok limit_ok durations_ok rows_ok row_ok longer
    data_wires ancillas gate_limit cost_limit durations all_of
may_compare = refl

-- so both are found or both are 14
pub none_alike : (search_of cheap_job 15 ≡ refused 14) ↔ (search_of dear_job 15 ≡ refused 14)
none_alike = none_together cheap_job dear_job both_bytes.0 both_bytes.1 may_compare
