-- The two lines that `gazbolk closest` prints for a circuit that was found. The contract of the code that writes them names this.
use Rattle.std.specs.Prelude.{List, ◌++◌, ℕ}
use Rattle.circuit.specs.declared.measures.Measures.{Measures}
use Rattle.text.specs.pieces.Text.{found_line}
use Rattle.printed.specs.misses.Closeness.{misses_line}

-- how many wanted bits are missed, and the circuit's line
unfoldable pub both_lines : ℕ → Measures → List ℕ → List ℕ
both_lines k m circuit = misses_line k ++ found_line m circuit
