-- An entry by its place, and whether a gate has a duration: for private contracts. No public contract cites this.
use Rattle.std.specs.Prelude.{Bool, List, ℕ, ◌+◌, ◌*◌, leb, get_or}
use Rattle.problem.specs.declared.Entry.{Entry}
use Rattle.library.specs.entries.Library.{duration_in}

-- the three bytes of entry i
unfoldable pub entry_at : List ℕ → ℕ → Entry
entry_at lib i = record { gate = get_or lib (3 * i) 0; price = get_or lib (3 * i + 1) 0; duration = get_or lib (3 * i + 2) 0 }

-- a gate has a duration; in a sound library every listed gate has one of at least 1, and a gate that is not listed has 0
unfoldable pub timed : List ℕ → ℕ → Bool
timed lib b = leb 1 (duration_in lib b)
