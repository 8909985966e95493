-- A search problem and its answer. The definition lists every choice and takes the first good one; it is never run.
use Rattle.std.specs.Prelude.{Bool, List, [], map, ℕ, leb, length}
use Rattle.std.proofs.Math.Option.{Option, none}
use Rattle.logic.specs.Rules.{both}
use Rattle.circuit.specs.Measure.{cost, depth}
use Rattle.problem.specs.order.Choices.{Choice, improve, under}

-- what a search is over
pub record Problem : Type 0 where
  pub gates : List ℕ  -- the gate bytes that a list may be made of, rising
  pub layouts : List ℕ  -- the layouts that the outputs may have, rising
  pub price : ℕ → ℕ  -- of a gate byte
  pub duration : ℕ → ℕ  -- of a gate byte
  pub realized : ℕ → List ℕ → Bool  -- whether a layout and a list realize what is asked for
  pub most_gates : ℕ
  pub most_cost : ℕ
  pub most_depth : ℕ

-- a list of gates with a layout, and the list's measures
unfoldable pub choice_of : Problem → List ℕ → ℕ → Choice
choice_of P l p = record { cost = cost P.price l; gates = length l; depth = depth P.duration l; layout = p; bytes = l }

-- the choices of one list: one for each layout
unfoldable pub here : Problem → List ℕ → List Choice
here P l = map (choice_of P l) P.layouts

-- all lists of the gates up to the limit on gates, each with every layout
abbrev pub choices : Problem → List Choice
choices P = under (here P) P.gates [] P.most_gates

-- the choice realizes what is asked for, within this limit on cost and the problem's own on depth; `choices` keeps to the limit on gates
unfoldable pub within : Problem → ℕ → Choice → Bool
within P limit c = both (P.realized c.layout c.bytes) (both (leb c.cost limit) (leb c.depth P.most_depth))

-- a good choice: feasible within all limits of the problem
abbrev pub good : Problem → Choice → Bool
good P c = within P P.most_cost c

-- "first by cost, then gates, depth, placing byte, and gate bytes from left to right"
unfoldable pub first_good : Problem → Option Choice
first_good P = improve (good P) none (choices P)
