-- Which costs a gate list can have, and with how many gates: place 13 * s + n of the sums is marked, that is not 0, for every list of n
-- gates, at most 12, that costs s.
use mathlib.Core.List.{List, Memᴰ}
use Rattle.std.specs.Prelude.{ℕ, ◌+◌, ◌*◌, ◌%◌, ◌<◌, length, get_or, set}
use Rattle.logic.specs.Lists.{along}

-- the sums with place i marked; a place past the end is ignored
unfoldable pub put : ℕ → List ℕ → List ℕ
put i sums = set sums i 1

-- the sums with each place marked that one more gate leads to from place i
unfoldable pub put_from : ℕ → List ℕ → List ℕ → List ℕ
put_from i prices sums = along (λ c. put (i + (13 * c + 1))) prices sums

-- one more gate may come after place i, which holds m: it is marked, and its number of gates is below the limit
abbrev pub Extends : ℕ → ℕ → ℕ → Type 0
Extends limit i m = (0 < m) × (i % 13 < limit)

-- the place of the empty list is marked; and if a place is marked after which one more gate may come, so is each place that the gate leads
-- to, as far as the sums go
pub record Marked (prices : List ℕ) (limit : ℕ) (sums : List ℕ) : Type 0 where
  pub none : 0 < length sums → 0 < get_or sums 0 0
  pub more : (i c : ℕ) → Memᴰ c prices → Extends limit i (get_or sums i 0) → i + (13 * c + 1) < length sums
      → 0 < get_or sums (i + (13 * c + 1)) 0
