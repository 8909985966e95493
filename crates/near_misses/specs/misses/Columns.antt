-- How many wanted bits the columns of the wires miss, and a lower bound on the misses where few gates are left. No public contract cites
-- this.
use Rattle.std.specs.Prelude.{Bool, List, [], ◌∷◌, ℕ, zero, suc, ◌+◌, ◌≤◌, min, eqb, leb, get_or}
use Rattle.std.specs.Int.Count.{ones}
use Rattle.logic.specs.Rules.{both, pick}
use Rattle.table.specs.layouts.Layouts.{wire_of}
use Rattle.columns.specs.declared.Wanted.{Wanted}
use Rattle.columns.specs.Wanted.{misses, tidy}

-- how many wanted bits of output j a column misses
unfoldable pub missed_by : Wanted → ℕ → ℕ → ℕ
missed_by t column j = ones (misses t column j)

-- how many wanted bits of output j are missed on the wire that layout p gives it
abbrev pub missed_for : Wanted → List ℕ → ℕ → ℕ → ℕ
missed_for t cs p j = missed_by t (get_or cs (wire_of p j) 0) j

-- how many wanted bits are missed under layout p, of all outputs
unfoldable pub missed_on : Wanted → List ℕ → ℕ → ℕ
missed_on t cs p = missed_for t cs p 3 + (missed_for t cs p 2 + (missed_for t cs p 1 + missed_for t cs p 0))

-- at most k wanted bits are missed under layout p, and the ancilla is at 0 in every row
unfoldable pub nearly : Wanted → ℕ → ℕ → List ℕ → ℕ → Bool
nearly t n k cs p = both (leb (missed_on t cs p) k) (tidy n cs)

-- the least value of f over the data wires, of which there are n: three or four
abbrev pub least_of : ℕ → (ℕ → ℕ) → ℕ
least_of n f = min (min (f 0) (f 1)) (min (f 2) (pick (eqb n 4) (f 3) (f 2)))

-- the fewest wanted bits of output j that are missed on a wire that an allowed layout gives it
unfoldable pub least_missed : Wanted → List ℕ → ℕ → ℕ → ℕ → ℕ
least_missed t cs n free j = pick (eqb free 1) (least_of n (λ w. missed_by t (get_or cs w 0) j)) (missed_by t (get_or cs j 0) j)

-- the least sum of a list of numbers once up to r of them are left out
unfoldable pub least_left : List ℕ → ℕ → ℕ
least_left [] r = 0
least_left (x ∷ xs) zero = x + least_left xs zero
least_left (x ∷ xs) (suc r) = min (x + least_left xs (suc r)) (least_left xs r)

-- the least sums once up to none, one, two and three are left out
abbrev pub lefts : List ℕ → List ℕ
lefts xs = least_left xs 0 ∷ least_left xs 1 ∷ least_left xs 2 ∷ least_left xs 3 ∷ []

-- each of four numbers is at most b
abbrev pub AtMost : ℕ → List ℕ → Type 0
AtMost b xs = (get_or xs 0 0 ≤ b) × (get_or xs 1 0 ≤ b) × (get_or xs 2 0 ≤ b) × (get_or xs 3 0 ≤ b)

-- a lower bound on the wanted bits missed after up to r more gates: each gives one wire a new column, so that all outputs but r are still
-- on a column of today
unfoldable pub missed_at_least : Wanted → List ℕ → ℕ → ℕ → ℕ → ℕ
missed_at_least t cs n free r =
    least_left
    (pick (eqb n 4) (least_missed t cs n free 3) 0
    ∷ least_missed t cs n free 2 ∷ least_missed t cs n free 1 ∷ least_missed t cs n free 0 ∷ []) r
