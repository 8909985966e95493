-- The candidates that are left at a place of the code's scan, where digits stand for gates: what a working slot of the code stands for
-- (slot/View.antt).
use mathlib.Core.List.{List, [], ◌∷◌, ◌++◌, map, flat_map}
use Rattle.std.specs.Prelude.{ℕ, suc, ◌-◌, length, get_or, take, drop}
use Rattle.logic.specs.Lists.{numbers_from}
use Rattle.problem.specs.order.Choices.{Choice, lists}
use Rattle.problem.specs.Problems.{Problem, choice_of, here}
use Rattle.scheduler.specs.candidates.Candidates.{of_length}
use Rattle.scheduler.specs.declared.candidates.Place.{Place}

-- the list of gates that digits stand for, each the index of a gate
unfoldable pub chosen : List ℕ → List ℕ → List ℕ
chosen gates ds = map (λ (d : ℕ). get_or gates d 0) ds

-- the later lists of the same length
unfoldable pub lists_after : List ℕ → List ℕ → List (List ℕ)
lists_after gates [] = []
lists_after gates (d ∷ ds) =
    map (λ (l : List ℕ). get_or gates d 0 ∷ l) (lists_after gates ds)
    ++ flat_map (λ (g : ℕ). map (λ (l : List ℕ). g ∷ l) (lists gates (length ds))) (drop (suc d) gates)

-- the candidate at these digits and the layout with index p
unfoldable pub current : Problem → List ℕ → ℕ → Choice
current P ds p = choice_of P (chosen P.gates ds) (get_or P.layouts p 0)

-- the candidates after it: its list with later layouts, then later lists of its length, then longer lists
unfoldable pub after : Problem → List ℕ → ℕ → List Choice
after P ds p =
    map (choice_of P (chosen P.gates ds)) (drop (suc p) P.layouts)
    ++ (flat_map (here P) (lists_after P.gates ds)
    ++ flat_map (of_length P) (numbers_from (suc (length ds)) (P.most_gates - length ds)))

-- all candidates that are left there: it and those after it
abbrev pub left : Problem → List ℕ → ℕ → List Choice
left P ds p = current P ds p ∷ after P ds p

-- the digits of a place of the code, and what is left there
abbrev pub digits_at : Place → List ℕ
digits_at at = take at.len at.digits

abbrev pub left_at : Problem → Place → List Choice
left_at P at = left P (digits_at at) at.layout
