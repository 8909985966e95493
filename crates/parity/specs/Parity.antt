-- When a table is a full permutation, and its parity, as document 01 defines them under 'Packed records'.
use Rattle.std.specs.Prelude.{Bool, true, not, false, List, [], ◌∷◌, map, ℕ, ◌+◌, ◌-◌, ◌^◌, ◌%◌, ltb, eqb, Result, Ok, Err}
use Rattle.logic.specs.Rules.{both, pick}
use Rattle.logic.specs.Lists.{all_of, total}
use Rattle.table.specs.Rows.{care_of, value_of}
use Rattle.record.specs.job_fields.Jobs.{data_wires, rows}
use Rattle.logic.specs.Answers.{Answer, refused, answered, answer_of}
use Rattle.record.specs.JobRules.{job_code}
use Rattle.parity.specs.declared.TableParity.{TableParity}
use Rattle.parity.specs.declared.TableParity.TheVariants.{Even, Odd, Neither}
use Rattle.record.specs.declared.refusal.Refusal.{Refusal}
use Rattle.record.specs.Answers.{number}

-- the table's values, first row first
abbrev pub values : List ℕ → List ℕ
values job = map value_of (rows job)

-- "every mask is full (all n bits)"
abbrev pub full_row : ℕ → ℕ → Bool
full_row n row = eqb (care_of row) (2 ^ n - 1)

unfoldable pub full : List ℕ → Bool
full job = all_of (full_row (data_wires job)) (rows job)

-- no value stands twice
abbrev pub differs : ℕ → ℕ → Bool
differs x y = not (eqb y x)

unfoldable pub distinct : List ℕ → Bool
distinct [] = true
distinct (x ∷ xs) = both (all_of (differs x) xs) (distinct xs)

-- "every mask is full (all n bits) and the values are a permutation": a well-formed job has 2^n values below 2^n, so they are a
-- permutation, with every value below 2^n among them, exactly where no value stands twice (theorem `permutation` in
-- proofs/odd_tables/Permutation.antt)
unfoldable pub permutes : List ℕ → Bool
permutes job = both (full job) (distinct (values job))

-- 1 if y is below x, else 0
abbrev pub lower : ℕ → ℕ → ℕ
lower x y = pick (ltb y x) 1 0

-- how many elements of l are below x
unfoldable pub smaller : ℕ → List ℕ → ℕ
smaller x l = total (lower x) l

-- how many "pairs of rows have the larger value in the earlier row"
unfoldable pub inversions : List ℕ → ℕ
inversions [] = 0
inversions (x ∷ xs) = smaller x xs + inversions xs

pub data Parity : Type 0 where
  even : Parity
  odd : Parity
  neither : Parity

abbrev pub is_odd : Parity → Bool
is_odd even = false
is_odd odd = true
is_odd neither = false

-- "A permutation is odd when an odd number of pairs of rows have the larger value in the earlier row, and even otherwise."
abbrev pub parity_by : ℕ → Parity
parity_by n = pick (eqb (n % 2) 1) odd even

-- "even or odd where [the table permutes]; else neither"
unfoldable pub table_parity : List ℕ → Parity
table_parity job = pick (permutes job) (parity_by (inversions (values job))) neither

-- "Parity makes the job's checks only."
unfoldable pub parity_of : List ℕ → Answer Parity
parity_of job = answer_of (job_code job) (table_parity job)

-- the parity that the code returns
abbrev pub parity_is : TableParity → Parity
parity_is Even = even
parity_is Odd = odd
parity_is Neither = neither

-- document 01's number for a refusal, and the parity in each other case
abbrev pub parity_answer : Result TableParity Refusal → Answer Parity
parity_answer (Ok p) = answered (parity_is p)
parity_answer (Err r) = refused (number r)
