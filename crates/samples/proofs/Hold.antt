-- Every row of the table of samples holds. If one did not, the check would print `Path ℕ ROW 0` with the number of that row.
use mathlib.Core.Path.{◌≡◌, refl, ap, ◌∙◌}
use mathlib.Core.Bool.{Bool, true, false}
use mathlib.Core.Logic.{⊎_elim}
use mathlib.Core.List.Memᴰ
use mathlib.Core.List.{List, [], ◌∷◌, Memᴰ}
use Prim.Native.Nat.{ℕ, suc}
use native.Mathlib.Omega.{arith}
use lib.Count.{ones, ones_in, count_trailing_zeros, count_leading_zeros}
use Rattle.logic.specs.Rules.{pick}
use Rattle.logic.specs.Lists.{all_of, total, along, back}
use Rattle.gate.specs.Gates.{lawful, step, gate_of}
use Rattle.circuit.specs.Measure.{weight_of, hold, greatest}
use Rattle.table.specs.layouts.Layouts.{layout_ok, allowed, layouts_for}
use Rattle.table.specs.Rows.{row_ok, bit_agrees, row_agrees, agrees_from, clean, realizes}
use Rattle.record.specs.job_fields.Jobs.{longer, data_wires, ancillas, wires, free_layout, gate_limit, cost_limit, depth_limit, prices, durations}
use Rattle.record.specs.JobRules.{job_length_ok, size_ok, head_ok, limit_ok, durations_ok, rows_ok, job_code}
use Rattle.record.specs.circuit_rules.CircuitRules.{circuit_length_ok, shape_ok, circuit_code}
use Rattle.record.specs.circuit_fields.Circuits.{marked, layout_of, count_byte, circuit_bytes}
use Rattle.circuit.specs.measures.Measures.{measures_of}
use Rattle.verify.specs.Calls.{measure_of, verify_code, verify_of, verify_rest}
use Rattle.record.specs.pair_codes.Codes.{same_wires, mark_fits, circuit_code_for, measure_code, run_code, search_code}
use Rattle.verify.specs.limits.Limits.{limits_code}
use Rattle.verify.specs.runs.Runs.{run_of}
use Rattle.parity.specs.Parity.{table_parity, parity_of, full, distinct, permutes, smaller, inversions}
use Rattle.problem.specs.order.Choices.{lex_less, before, keep, attempt, improve, under}
use Rattle.problem.specs.Problems.{choice_of, here, within, first_good}
use Rattle.outcomes.specs.Outcomes.{problem_over, record_of, search_over, search_of}
use Rattle.samples.specs.Table.{Sample, holds, samples, failing}

pub all_hold : failing 1 samples ≡ 0
unfolding failing samples holds lawful step gate_of weight_of hold greatest total along back all_of parity_of table_parity permutes full
    distinct inversions smaller job_code job_length_ok size_ok head_ok limit_ok durations_ok rows_ok row_ok data_wires ancillas wires free_layout
    gate_limit cost_limit depth_limit prices durations layout_of count_byte circuit_length_ok shape_ok circuit_code layout_ok allowed bit_agrees
    row_agrees agrees_from run_code run_of measures_of same_wires circuit_code_for measure_code measure_of limits_code verify_rest verify_code verify_of ones ones_in
    count_trailing_zeros count_leading_zeros lex_less before keep attempt improve under choice_of here within first_good problem_over record_of circuit_bytes search_over search_code search_of
    layouts_for clean realizes longer marked mark_fits
all_hold = refl

-- the first row holds, and the others
first_holds : (s : Sample) (i rest : ℕ) (t : Bool) → holds s ≡ t → pick t rest (suc i) ≡ 0 → (holds s ≡ true) × (rest ≡ 0)
first_holds s i rest true e h = (e, h)
first_holds s i rest false e h = absurd (omega arith)

none_failing : (l : List Sample) (i : ℕ) → failing (suc i) l ≡ 0 → (s : Sample) → Memᴰ s l → holds s ≡ true
unfolding failing
none_failing [] i h s m = absurd (Memᴰ.not-nil m)
none_failing (x ∷ l) i h s m =
    let p = first_holds x i (failing (suc (suc i)) l) (holds x) refl h in
    ⊎_elim (λ (e : s ≡ x). ap holds e ∙ p.0) (λ (k : Memᴰ s l). none_failing l (suc i) p.1 s k) (Memᴰ.cases_cons m)

-- so each row does
pub each_holds : (s : Sample) → Memᴰ s samples → holds s ≡ true
each_holds = none_failing samples 0 all_hold
