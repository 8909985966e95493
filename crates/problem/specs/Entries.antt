-- The gates of a list of entries, their prices and their durations, in the list's order.
use Rattle.std.specs.Prelude.{List, ℕ, map}
use Rattle.problem.specs.declared.Entry.{Entry}

abbrev pub entry_gates : List Entry → List ℕ
entry_gates es = map (λ (e : Entry). e.gate) es

abbrev pub entry_prices : List Entry → List ℕ
entry_prices es = map (λ (e : Entry). e.price) es

abbrev pub entry_durations : List Entry → List ℕ
entry_durations es = map (λ (e : Entry). e.duration) es
