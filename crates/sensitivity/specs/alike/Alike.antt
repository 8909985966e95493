-- Which two jobs may be compared, and the difference of two costs.
use Rattle.std.specs.Prelude.{Bool, List, ℕ, ◌+◌, leb, eqb, ℤ, pos, ◌-ℤ◌, length, get_or}
use Rattle.logic.specs.Rules.{both, either, pick, rule, and_then, all_below, some_below}
use Rattle.record.specs.JobRules.{job_code}
use Rattle.record.specs.job_fields.Jobs.{longer, cost_limit}

-- how many prices a job has: of NOT, CNOT and Toffoli, and in a longer job of the gate with three controls
abbrev pub price_count : List ℕ → ℕ
price_count job = pick (longer job) 4 3

-- the byte of the k-th price: "Bytes 6 to 8: prices", in a longer job 6 to 9
abbrev pub price_place : ℕ → ℕ
price_place k = 6 + k

-- byte i is the same in both, or is the one at `place`, which may differ
unfoldable pub same_but : List ℕ → List ℕ → ℕ → ℕ → Bool
same_but old new place i = either (eqb i place) (eqb (get_or old i 0) (get_or new i 0))

-- every byte is the same in both, except perhaps the one at `place`
unfoldable pub alike_but : List ℕ → List ℕ → ℕ → Bool
alike_but old new place = all_below (length old) (same_but old new place)

-- "two jobs alike but for one price": equal jobs count as alike too, and jobs that differ in two prices do not
unfoldable pub one_price : List ℕ → List ℕ → Bool
one_price old new = some_below (price_count old) (λ k. alike_but old new (price_place k))

-- "38, the jobs differ elsewhere, in length included, or a cost limit is lower" than 65,535
unfoldable pub comparable : List ℕ → List ℕ → Bool
comparable old new =
    both (eqb (length old) (length new))
    (both (one_price old new)
    (both (leb 65535 (cost_limit old)) (leb 65535 (cost_limit new))))

-- "after the old job's checks and then the new's, and before 14"
unfoldable pub compare_code : List ℕ → List ℕ → ℕ
compare_code old new = and_then (job_code old) (and_then (job_code new) (rule (comparable old new) 38 0))

-- "the new least cost less the old, which may be negative"
abbrev pub cost_difference : ℕ → ℕ → ℤ
cost_difference old new = pos new -ℤ pos old
