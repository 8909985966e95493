-- One step of the odometer that goes through the candidates: its digits, and what is left after the step. No public contract cites this.
use Rattle.std.specs.Prelude.{Bool, List, [], ◌∷◌, ℕ, ◌+◌, leb, ltb, Option, Some, None}
use Rattle.logic.specs.Rules.{pick}
use Rattle.logic.specs.Lists.{all_of}
use Rattle.problem.specs.order.Choices.{Choice}
use Rattle.problem.specs.Problems.{Problem}
use Rattle.scheduler.specs.candidates.Left.{current, after, digits_at, left_at}
use Rattle.scheduler.specs.declared.candidates.Place.{Place}

-- a digit is the index of a gate among n gates; this one is at the last gate
abbrev pub at_last : ℕ → ℕ → Bool
at_last n d = leb n (d + 1)

-- every digit is at the last gate
unfoldable pub over : ℕ → List ℕ → Bool
over n ds = all_of (at_last n) ds

-- a digit after a step: it stays, or, where the step carried to it, moves to the next gate, and from the last to the first
abbrev pub digit : ℕ → ℕ → Bool → ℕ
digit n d carried = pick carried (pick (ltb (d + 1) n) (d + 1) 0) d

-- all digits after a step, which carries to a digit where all after it are at the last gate
unfoldable pub bump : ℕ → List ℕ → List ℕ
bump n [] = []
bump n (d ∷ ds) = digit n d (over n ds) ∷ bump n ds

-- `current` and `after` at a place of the code
abbrev pub current_at : Problem → Place → Choice
current_at P at = current P (digits_at at) at.layout

abbrev pub after_at : Problem → Place → List Choice
after_at P at = after P (digits_at at) at.layout

-- the candidates that are left after a step
abbrev pub remaining : Problem → Option Place → List Choice
remaining P None = []
remaining P (Some next) = left_at P next
