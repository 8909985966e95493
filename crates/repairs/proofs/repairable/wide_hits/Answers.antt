-- The ancilla's rows and those of an output on its own wire are asked for alone, those of all outputs at once.
use mathlib.Core.Path.{ap, ◌∙◌}
use mathlib.Core.Bool.{true, not}
use mathlib.Core.List.{List, [], ◌∷◌}
use Prim.Native.Nat.{ℕ, ◌<◌}
use borrow.Author.Tests.{eq-eqb, ne_eqb}
use lib.Dec.{eqb}
use lib.ListN.{get_or}
use Rattle.logic.specs.Rules.{both, bit}
use Rattle.outputs.specs.Owed.{adds, mendable_on, cleanable}
use Rattle.repairs.specs.matches.Inner.{fixes_on}
use Rattle.outputs.specs.products.Products.{part}
use Rattle.outputs.proofs.Wires.{data_wire}
use Rattle.repairs.proofs.matches.Joined.{wire_is}
use Rattle.repairs.proofs.repairable.wide_hits.Goals as goal
use Rattle.repairs.proofs.repairable.wide_hits.Goals.{Else-n-w, Start}

abbrev cells : Start → List ℕ
cells s = s.args.a ∷ s.args.b ∷ s.args.c ∷ s.args.d ∷ s.args.e ∷ []

-- the wire of an output
output : (c : Else-n-w) → c.args.w < 4
output c = data_wire c.requires.width c.requires.w_le_n c.if-n-w.false

pub returns-then-n-w : goal.returns-then-n-w
unfolding fixes_on cleanable
returns-then-n-w c =
    rw (eq-eqb _ _ c.if-n-w.true)
    (c.one_hit.ensures (cells (goal.at.returns-then-n-w c).Start) c.triples-ps.ensures
    ∙ (λ i. bit (both (not (eqb (c.dirt-spilt.ensures i) 0)) (adds (part true) (cells (goal.at.returns-then-n-w c).Start) c.args.n (c.all_rows.ensures i) (c.dirt-spilt.ensures i)))))

pub returns-then-free-eq1 : goal.returns-then-free-eq1
unfolding fixes_on
returns-then-free-eq1 c =
    rw (ne_eqb _ _ c.if-n-w.false, eq-eqb _ _ c.if-free-eq1.true)
    (c.wire_hits.ensures ∙ ap bit (wire_is true c.args.t (cells (goal.at.returns-then-free-eq1 c).Start) c.args.n c.requires.width _ c.triples-ps.ensures c.args.w (output (goal.at.returns-then-free-eq1 c).Else-n-w)))

pub returns-else-free-eq1 : goal.returns-else-free-eq1
unfolding fixes_on mendable_on
returns-else-free-eq1 c =
    rw (ne_eqb _ _ c.if-n-w.false, ne_eqb _ _ c.if-free-eq1.false)
    (c.one_hit-else-free-eq1.ensures (cells (goal.at.returns-else-free-eq1 c).Start) c.triples-ps.ensures
    ∙ (λ i. bit (both (not (eqb (c.misses.ensures i) 0)) (adds (part true) (cells (goal.at.returns-else-free-eq1 c).Start) c.args.w (get_or c.args.t.care c.args.w 0) (c.misses.ensures i)))))
