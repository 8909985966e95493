-- The job records of a batch, cut off one after the other.
use Rattle.std.specs.Prelude.{Bool, List, [], ◌∷◌, ℕ, zero, suc, leb, eqb, length, get_or, take, drop}
use Rattle.logic.specs.Rules.{pick}
use Rattle.logic.specs.Lists.{total}
use Rattle.record.specs.job_fields.Jobs.{data_wires}

-- "each 20 bytes if its first three bits say 3 and 28 if they say 4"
unfoldable pub size_said : List ℕ → ℕ
size_said l = pick (eqb (data_wires l) 3) 20 (pick (eqb (data_wires l) 4) 28 0)

-- the size of the record at the front; 0 where there is none, or "a record that can't be cut off so"
unfoldable pub record_size : List ℕ → ℕ
record_size l = pick (leb (size_said l) (length l)) (size_said l) 0

-- "job records stand back to back": those at the front, at most `most` of them
unfoldable pub records : ℕ → List ℕ → List (List ℕ)
records zero l = []
records (suc most) l = pick (eqb (record_size l) 0) [] (take (record_size l) l ∷ records most (drop (record_size l) l))

-- "Up to 64 job records"
abbrev pub records_of : List ℕ → List (List ℕ)
records_of jobs = records 64 jobs

-- "the number of jobs"
abbrev pub count_of : List ℕ → ℕ
count_of jobs = length (records_of jobs)

-- the bytes of job i, counted from 0
abbrev pub job_at : List ℕ → ℕ → List ℕ
job_at jobs i = get_or (records_of jobs) i []

-- whether these records are all of the bytes; if not, there is "a record that can't be cut off so, or more than 64"
unfoldable pub all_cut : List ℕ → Bool
all_cut jobs = eqb (total length (records_of jobs)) (length jobs)
