-- The lines of `gazbolk compare`: the difference of two circuits' costs, and the circuits.
use Rattle.std.specs.Prelude.{List, [], ◌++◌, ℕ, eqb, ℤ, pos, nat_abs}
use Rattle.std.specs.Int.Signed.{lt_z}
use Rattle.logic.specs.Rules.{pick}
use Rattle.logic.specs.Words.{bytes}
use Rattle.text.specs.pieces.Text.{decimal, line_feed, found_line}
use Rattle.circuit.specs.declared.measures.Measures.{Measures}
use Rattle.sensitivity.specs.alike.Alike.{cost_difference}

-- `-` where the least cost falls, `+` where it rises, nothing where it stays
unfoldable pub sign : ℤ → List ℕ
sign d = pick (lt_z d (pos 0)) (bytes "-") (pick (eqb (nat_abs d) 0) [] (bytes "+"))

-- `by DIFFERENCE`
unfoldable pub change_line : ℤ → List ℕ
change_line d = bytes "by " ++ (sign d ++ (decimal (nat_abs d) ++ line_feed))

-- the difference of two circuits' costs, and the line of each
unfoldable pub both_lines : Measures → List ℕ → Measures → List ℕ → List ℕ
both_lines m circuit k other = change_line (cost_difference m.cost k.cost) ++ (found_line m circuit ++ found_line k other)
