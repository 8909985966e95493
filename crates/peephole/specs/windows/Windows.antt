-- Long gate lists, a few gates at a time (document 02, change request 12): the job that a window of a list is, when a window yields, and
-- what a list becomes.
use Rattle.std.specs.Prelude.{List, [], ◌∷◌, ◌++◌, map, ℕ, zero, suc, ◌+◌, ◌-◌, ◌*◌, ◌%◌, ◌^◌, ltb, leb, length, take, drop}
use Rattle.std.proofs.Math.Option.{Option, none, some}
use Rattle.logic.specs.Rules.{pick}
use Rattle.logic.specs.Lists.{numbers_from}
use Rattle.logic.specs.Answers.{Answer, refused, answered}
use Rattle.circuit.specs.declared.Weights.{Weights}
use Rattle.circuit.specs.Measure.{weight_of, cost}
use Rattle.circuit.specs.run.Run.{forwards}
use Rattle.record.specs.circuit_fields.Circuits.{gates}
use Rattle.outcomes.specs.Outcomes.{Found, search_of}
use Rattle.peephole.specs.declared.windows.Prices.{Prices}

-- "three prices", by kind; no gate here has three controls, so the fourth is never used
abbrev pub weights : Prices → Weights
weights p = record { not = p.not; cnot = p.cnot; toffoli = p.toffoli; cccnot = 0 }

-- the cost of a list at these prices
abbrev pub cost_at : Prices → List ℕ → ℕ
cost_at p l = cost (weight_of (weights p)) l

-- row x of a table that wants "every value [changed] alike": all n bits, as the window leaves them
abbrev pub window_row : ℕ → List ℕ → ℕ → ℕ
window_row n w x = 16 * (2 ^ n - 1) + forwards w x % 16

-- what the search is asked: n data wires, no ancilla, "gate limit the window, fixed placing, durations 1, cost and depth limits 65,535"
unfoldable pub window_job : ℕ → Prices → List ℕ → List ℕ
window_job n p w =
    32 * n ∷ length w ∷ 255 ∷ 255 ∷ 255 ∷ 255 ∷ p.not ∷ p.cnot ∷ p.toffoli ∷ 1 ∷ 1 ∷ 1 ∷ map (window_row n w) (numbers_from 0 (2 ^ n))

-- the gates that the search found, where they are "at lower cost" than c
abbrev pub cheaper_than : ℕ → Answer Found → Option (List ℕ)
cheaper_than c (refused code) = none
cheaper_than c (answered f) = pick (ltb f.measures.cost c) (some (gates f.bytes)) none

-- a window yields where the search finds gates at lower cost: these are "the search's answer"
unfoldable pub better : ℕ → Prices → List ℕ → Option (List ℕ)
better n p w = cheaper_than (cost_at p w) (search_of (window_job n p w) 15)

-- the window of k gates that begins at gate i
abbrev pub window_at : ℕ → ℕ → List ℕ → List ℕ
window_at k i l = take k (drop i l)

-- "close the gap": the list with the gates a in place of the window of k gates that begins at gate i
abbrev pub spliced : ℕ → ℕ → List ℕ → List ℕ → List ℕ
spliced k i a l = take i l ++ (a ++ drop (i + k) l)

-- "Replace it .., close the gap": where the window at the front of a list yields, its answer and then the rest of the list; else what
-- becomes of the list by a later window, if anything
abbrev pub instead : Option (List ℕ) → List ℕ → Option (List ℕ) → Option (List ℕ)
instead (some a) rest others = some (a ++ rest)
instead none rest others = others

-- the first gate stays, before what becomes of the rest
abbrev pub behind : ℕ → Option (List ℕ) → Option (List ℕ)
behind g none = none
behind g (some l) = some (g ∷ l)

-- "Find the leftmost window" of k gates that yields, and replace it; none where no window yields
unfoldable pub replaced : (List ℕ → Option (List ℕ)) → ℕ → List ℕ → Option (List ℕ)
replaced yields k [] = none
replaced yields k (g ∷ l) =
    pick (leb k (length (g ∷ l))) (instead (yields (take k (g ∷ l))) (drop k (g ∷ l)) (behind g (replaced yields k l))) none

-- a list stays where there is no next one
abbrev pub or_stay : Option (List ℕ) → List ℕ → (List ℕ → List ℕ) → List ℕ
or_stay none l go = l
or_stay (some m) l go = go m

-- "and repeat until no window yields", at most `most` times
unfoldable pub repeated : (List ℕ → Option (List ℕ)) → ℕ → List ℕ → List ℕ
repeated next zero l = l
repeated next (suc most) l = or_stay (next l) l (repeated next most)

-- each replacement makes the list cheaper, so there are no more replacements than its cost
unfoldable pub rewritten : ℕ → ℕ → Prices → List ℕ → List ℕ
rewritten n k p l = repeated (replaced (better n p) k) (cost_at p l) l
