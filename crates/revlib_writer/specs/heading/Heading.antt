-- The heading of the text of a circuit.
use Rattle.std.specs.Prelude.{List, ℕ, ◌+◌}
use Rattle.revlib.specs.Grammar.{heading}
use Rattle.revlib.specs.Writing.{letters_for, constants_for}

-- the heading for n data wires and m ancillas
unfoldable pub heading_for : ℕ → ℕ → List ℕ
heading_for n m = heading (letters_for (n + m)) (constants_for m)
