-- A gate list cut in two: its depth is the greatest sum, over the wires, of the ready time after the front and the ready time after the
-- rest taken backwards.
use Rattle.std.specs.Prelude.{List, [], ◌∷◌, ℕ, ◌+◌}

-- two lists of times added wire by wire; past the end of one, the times of the other
unfoldable pub added_up : List ℕ → List ℕ → List ℕ
added_up [] us = us
added_up (t ∷ ts) [] = t ∷ ts
added_up (t ∷ ts) (u ∷ us) = (t + u) ∷ added_up ts us
