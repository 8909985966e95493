-- An instance: PRESENT's S-box (002, Table 1) is such a permutation, and its inverse, row by row, is the table that decrypts.
use mathlib.Core.Path.{◌≡◌, refl}
use mathlib.Core.List.{List, [], ◌∷◌, map}
use Prim.Native.Nat.{ℕ, ◌+◌}
use Rattle.logic.specs.Lists.{all_of}
use Rattle.table.specs.Rows.{row_ok, row_of}
use Rattle.record.specs.job_fields.Jobs.{longer, data_wires, ancillas, free_layout, gate_limit, durations}
use Rattle.record.specs.JobRules.{job_length_ok, size_ok, head_ok, limit_ok, durations_ok, rows_ok, job_code}
use Rattle.parity.specs.Parity.{full, distinct, permutes}
use Rattle.inverse.specs.Inverse.{Permutation, Inverse, inverse_job}
use Rattle.inverse.proofs.Made.{inverse_is}

-- a job with these values, every bit wanted: four data wires, fixed layout, gate limit 12, prices 1, 1, 5 and durations 1, 1, 7
job_for : List ℕ → List ℕ
job_for vs = 128 ∷ 12 ∷ 255 ∷ 255 ∷ 255 ∷ 255 ∷ 1 ∷ 1 ∷ 5 ∷ 1 ∷ 1 ∷ 7 ∷ map (λ v. 240 + v) vs

pub present : List ℕ
present = job_for (12 ∷ 5 ∷ 6 ∷ 11 ∷ 9 ∷ 0 ∷ 10 ∷ 13 ∷ 3 ∷ 14 ∷ 15 ∷ 8 ∷ 4 ∷ 7 ∷ 1 ∷ 2 ∷ [])

pub decrypting : List ℕ
decrypting = job_for (5 ∷ 14 ∷ 15 ∷ 8 ∷ 12 ∷ 1 ∷ 2 ∷ 13 ∷ 11 ∷ 4 ∷ 6 ∷ 3 ∷ 0 ∷ 7 ∷ 9 ∷ 10 ∷ [])

pub present_permutes : Permutation present
unfolding present job_for job_code job_length_ok size_ok head_ok limit_ok durations_ok rows_ok row_ok longer data_wires ancillas free_layout gate_limit durations
    permutes full distinct all_of
present_permutes = record { sound = refl; permuting = refl; bare = refl; fixed = refl }

present_inverse : inverse_job present ≡ decrypting
unfolding present decrypting job_for inverse_job row_of longer data_wires
present_inverse = refl

pub present_pair : Inverse present decrypting
present_pair = rw (← present_inverse) (inverse_is present present_permutes)
