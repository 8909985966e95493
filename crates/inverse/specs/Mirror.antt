-- Mirrored problems: what a list does for the one, the list backwards does for the other. And the three numbers in which what they find is
-- compared.
use Rattle.std.specs.Prelude.{◌≡◌, true, ◌⊎◌, List, reverse, ℕ}
use Rattle.std.proofs.Math.Option.{Option, none, some}
use Rattle.logic.specs.Answers.{Answer, refused, answered}
use Rattle.problem.specs.order.Choices.{Choice}
use Rattle.problem.specs.Problems.{Problem}
use Rattle.problem.specs.Demand.{Admitted}
use Rattle.outcomes.specs.Outcomes.{Found}

-- two problems that differ only in the table: a list realizes the table of the one exactly where the list backwards realizes that of the
-- other
pub record Mirrored (P Q : Problem) : Type 0 where
  pub same_gates : P.gates ≡ Q.gates
  pub same_layouts : P.layouts ≡ Q.layouts
  pub same_price : P.price ≡ Q.price
  pub same_duration : P.duration ≡ Q.duration
  pub same_most_gates : P.most_gates ≡ Q.most_gates
  pub same_most_cost : P.most_cost ≡ Q.most_cost
  pub same_most_depth : P.most_depth ≡ Q.most_depth
  pub forth : (l : List ℕ) (p : ℕ) → Admitted P l p → P.realized p l ≡ true → Q.realized p (reverse l) ≡ true
  pub back : (l : List ℕ) (p : ℕ) → Admitted Q l p → Q.realized p l ≡ true → P.realized p (reverse l) ≡ true

-- "cost, gates and depth"
pub record Three : Type 0 where
  pub cost : ℕ
  pub gates : ℕ
  pub depth : ℕ

-- the three numbers of a choice
abbrev pub three : Choice → Three
three c = record { cost = c.cost; gates = c.gates; depth = c.depth }

-- the three numbers of the first good choice, if there is one
abbrev pub first_three : Option Choice → Option Three
first_three none = none
first_three (some c) = some (three c)

-- the three numbers of what a search found
abbrev pub found_three : Found → Three
found_three f = record { cost = f.measures.cost; gates = f.measures.gates; depth = f.measures.depth }

-- the three numbers of what a search answers, or its refusal
abbrev pub answered_three : Answer Found → Answer Three
answered_three (refused code) = refused code
answered_three (answered f) = answered (found_three f)

-- "both found or both 'none', and .. the circuits found agree in cost, gates and depth"
abbrev pub Alike : Answer Found → Answer Found → Type 0
Alike a b =
    ((a ≡ refused 14) × (b ≡ refused 14))
    ⊎ ((f : Found) × ((g : Found) × ((a ≡ answered f) × ((b ≡ answered g) × (found_three f ≡ found_three g)))))
