use Rattle.std.proofs.Common.{◌≡◌, List, ℕ, ◌<◌, eqb, length, get_or, arith}
use borrow.Author.Tests.{eq-eqb, eqb-true}
use lib.Count.{ones, ones_in}
use Rattle.logic.specs.Rules.{pick}
use Rattle.gate.specs.Gates.{gates_for, lawful}
use Rattle.sizes.specs.permutations.Inner.{Level}
use Rattle.sizes.proofs.permutations.Levels.{level_first, level_last}
use Rattle.sizes.specs.Filling.{fill_code, cells_left}
use Rattle.sizes.proofs.fill.Goals as goal

-- a buffer of the right length, cleared and swept, is the table of sizes
whole : (before clear after : List ℕ) → length before ≡ 40320
    → ((s : ℕ) → s < length before → get_or clear s 0 ≡ pick (eqb s 0) 0 255)
    → length after ≡ 40320 → (Level 1 clear → Level 255 after)
    → after ≡ cells_left before
unfolding fill_code cells_left
whole before clear after e fresh l grown =
    rw (eq-eqb (length before) 40320 e) (level_last after l (grown (level_first clear (λ s h. fresh s (omega arith)))))

-- the twelve gates
pub grow_all-requires-clause-gates_value : goal.grow_all-requires-clause-gates_value
unfolding gates_for lawful ones ones_in
grow_all-requires-clause-gates_value c = c.gate_table-gates.ensures

pub returns-clause-cells_after : goal.returns-clause-cells_after
returns-clause-cells_after c =
    whole c.args.cells.now c.clear.new.cells c.grow_all.new.cells (eqb-true _ _ c.in_ok-kept.ensures.ok) c.clear.ensures.by_index
    c.grow_all.ensures.cells_len_2 c.grow_all.ensures.level
