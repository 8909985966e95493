-- All measures of a gate list in one record.
use Rattle.std.specs.Prelude.{List, [], ◌∷◌, ℕ, length, get_or}
use Rattle.circuit.specs.Measure.{cost, ready_times, greatest}
use Rattle.circuit.specs.declared.measures.Measures.{Measures}

-- gates, cost, and "the free time of each of five wires"; "depth is their greatest"
abbrev pub measures_with : ℕ → ℕ → List ℕ → Measures
measures_with gs c ts = record {
  gates = gs;
  cost = c;
  depth = greatest ts;
  ready0 = get_or ts 0 0;
  ready1 = get_or ts 1 0;
  ready2 = get_or ts 2 0;
  ready3 = get_or ts 3 0;
  ready4 = get_or ts 4 0;
}

-- the measures of a list at these prices and durations
unfoldable pub measures_of : (ℕ → ℕ) → (ℕ → ℕ) → List ℕ → Measures
measures_of price duration gs = measures_with (length gs) (cost price gs) (ready_times duration gs)

-- the five ready times of a record of measures, as a list
abbrev pub ready_of : Measures → List ℕ
ready_of m = m.ready0 ∷ m.ready1 ∷ m.ready2 ∷ m.ready3 ∷ m.ready4 ∷ []
