-- The checks of a job record, in document 01's order with its refusal codes, widened to the longer records of document 02.
use Rattle.std.specs.Prelude.{Bool, List, ℕ, ◌%◌, leb, eqb, length, get_or}
use Rattle.logic.specs.Rules.{both, either, implies, rule}
use Rattle.logic.specs.Lists.{all_of}
use Rattle.table.specs.Rows.{row_ok}
use Rattle.record.specs.job_fields.Jobs.{longer, data_wires, ancillas, gate_limit, durations, rows}

-- "Is it 20 or 28 bytes long? If not, 1." Or 22 or 30 bytes long
unfoldable pub job_length_ok : List ℕ → Bool
job_length_ok job = either (either (eqb (length job) 20) (eqb (length job) 28)) (longer job)

-- how many bytes the longest of them has
abbrev pub longest_job : ℕ
longest_job = 30

-- "Is n = 3 with 20, n = 4 with 28? If not, 2." Or n = 3 with 22, n = 4 with 30
unfoldable pub size_ok : List ℕ → Bool
size_ok job =
    either (both (eqb (data_wires job) 3) (either (eqb (length job) 20) (eqb (length job) 22)))
    (both (eqb (data_wires job) 4) (either (eqb (length job) 28) (eqb (length job) 30)))

-- "Is m 0 or 1, and are byte 0's last two bits zero? If not, 3."
unfoldable pub head_ok : List ℕ → Bool
head_ok job = both (leb (ancillas job) 1) (eqb (get_or job 0 0 % 4) 0)

-- "Is the gate limit at most 12? If not, 4."
unfoldable pub limit_ok : List ℕ → Bool
limit_ok job = leb (gate_limit job) 12

-- "Are all durations at least 1? If not, 5." All three or, in a longer record, all four
unfoldable pub durations_ok : List ℕ → Bool
durations_ok job =
    both (leb 1 (durations job).not)
    (both (leb 1 (durations job).cnot)
    (both (leb 1 (durations job).toffoli)
    (implies (longer job) (leb 1 (durations job).cccnot))))

-- "Does every row keep the rules above? If not, 6."
unfoldable pub rows_ok : List ℕ → Bool
rows_ok job = all_of (row_ok (data_wires job)) (rows job)

-- the code of the first rule broken, or 0 for a job that is well-formed
unfoldable pub job_code : List ℕ → ℕ
job_code job =
    rule (job_length_ok job) 1
    (rule (size_ok job) 2
    (rule (head_ok job) 3
    (rule (limit_ok job) 4
    (rule (durations_ok job) 5
    (rule (rows_ok job) 6 0)))))
