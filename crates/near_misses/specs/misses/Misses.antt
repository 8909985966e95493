-- The wanted bits that a gate list and a layout miss, and the first choice among those that miss fewest (document 02, change request 10).
use Rattle.std.specs.Prelude.{Bool, not, List, [], ◌∷◌, ℕ, suc, ◌+◌, min, leb}
use Rattle.std.proofs.Math.Option.{Option}
use Rattle.logic.specs.Rules.{both, pick, count_below}
use Rattle.circuit.specs.run.Run.{forwards}
use Rattle.table.specs.Rows.{bit_agrees, clean}
use Rattle.problem.specs.order.Choices.{Choice}
use Rattle.problem.specs.Problems.{Problem, choices, good, first_good}

-- how many wanted bits of a row are not what the wires laid out for them end with
unfoldable pub row_misses : ℕ → ℕ → ℕ → ℕ
row_misses p row v = count_below 4 (λ j. not (bit_agrees p row v j))

-- "added up over all rows", from row number x on
unfoldable pub misses_from : ℕ → (ℕ → ℕ) → ℕ → List ℕ → ℕ
misses_from p ends x [] = 0
misses_from p ends x (row ∷ rows) = row_misses p row (ends x) + misses_from p ends (suc x) rows

-- the wanted bits that list gs and layout p miss
abbrev pub missed_bits : List ℕ → ℕ → List ℕ → ℕ
missed_bits rows p gs = misses_from p (forwards gs) 0 rows

-- problem P with another test of what a choice must realize
abbrev pub asking : (ℕ → List ℕ → Bool) → Problem → Problem
asking asked P = record {
  gates = P.gates;
  layouts = P.layouts;
  price = P.price;
  duration = P.duration;
  realized = asked;
  most_gates = P.most_gates;
  most_cost = P.most_cost;
  most_depth = P.most_depth;
}

-- "ancilla clean", whatever is missed
abbrev pub tidily : ℕ → ℕ → List ℕ → Bool
tidily n p gs = clean n (forwards gs)

-- "ancilla clean", and at most k wanted bits are missed
unfoldable pub approximates : ℕ → List ℕ → ℕ → ℕ → List ℕ → Bool
approximates n rows k p gs = both (leb (missed_bits rows p gs) k) (tidily n p gs)

-- the problem for which a choice may miss up to k wanted bits, and the one for which it may miss any number
abbrev pub missing_at_most : ℕ → List ℕ → ℕ → Problem → Problem
missing_at_most n rows k P = asking (approximates n rows k) P

abbrev pub missing_any : ℕ → Problem → Problem
missing_any n P = asking (tidily n) P

-- the fewest of m and the counts of the good choices of a list
unfoldable pub fewest : (Choice → Bool) → (Choice → ℕ) → ℕ → List Choice → ℕ
fewest good count m [] = m
fewest good count m (a ∷ l) = pick (good a) (min (count a) (fewest good count m l)) (fewest good count m l)

-- the wanted bits that a choice misses
abbrev pub missed_in : List ℕ → Choice → ℕ
missed_in rows c = missed_bits rows c.layout c.bytes

-- "the fewest wanted bits" that a choice "within all limits" misses, "ancilla clean"; 64 is all there are
unfoldable pub fewest_misses : ℕ → List ℕ → Problem → ℕ
fewest_misses n rows P = fewest (good (missing_any n P)) (missed_in rows) 64 (choices P)

-- the first of those that miss so few: "ties fall as in the search"
unfoldable pub closest_choice : ℕ → List ℕ → Problem → Option Choice
closest_choice n rows P = first_good (missing_at_most n rows (fewest_misses n rows P) P)
