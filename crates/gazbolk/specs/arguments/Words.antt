-- The words after the program's name.
use Rattle.std.specs.Prelude.{◌≡◌, List, ℕ, ◌≤◌}

-- a command is asked for: it has as many words as it takes, and the word is its name
abbrev pub Asked : List ℕ → List ℕ → ℕ → ℕ → ℕ → Type 0
Asked word command words least most = ((least ≤ words) × (words ≤ most)) × (word ≡ command)
