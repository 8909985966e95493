-- Heavy gates, those of two or more controls: only they add to the span of the columns.
use Rattle.std.specs.Prelude.{Bool, List, ℕ, leb}
use Rattle.std.specs.Int.Count.{ones}
use Rattle.logic.specs.Rules.{bit}
use Rattle.logic.specs.Lists.{total}
use Rattle.gate.specs.Gates.{mask_of}

-- a gate of two or more controls
unfoldable pub heavy : ℕ → Bool
heavy b = leb 2 (ones (mask_of b))

-- how many gates of the list are heavy
unfoldable pub heavies : List ℕ → ℕ
heavies l = total (λ b. bit (heavy b)) l
