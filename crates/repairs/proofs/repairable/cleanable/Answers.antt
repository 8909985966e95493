-- Where the ancilla is not at 0 its rows are asked for as one output's would be.
use mathlib.Core.Path.{sym, ap, ◌∙◌}
use mathlib.Core.Bool.{false, not}
use borrow.Author.Tests.{eq-eqb}
use lib.Dec.{eqb}
use Rattle.logic.specs.Rules.{both, bit}
use Rattle.outputs.specs.Owed.{adds, cleanable}
use Rattle.outputs.specs.products.Products.{part}
use Rattle.outputs.proofs.Counted.{bit_one}
use Rattle.repairs.proofs.repairable.cleanable.Goals as goal

pub returns-then-spilt-eq0 : goal.returns-then-spilt-eq0
unfolding cleanable
returns-then-spilt-eq0 c = rw (eq-eqb _ _ (sym c.requires.spilt_value ∙ c.if-spilt-eq0.true))

pub returns : goal.returns
unfolding cleanable
returns c =
    ap (λ x. eqb x 1)
    (c.one_hit.ensures c.args.columns c.products-ps.ensures
    ∙ (λ i. bit (both (not (eqb (c.requires.spilt_value i) 0)) (adds (part false) c.args.columns c.args.n (c.all_rows.ensures i) (c.requires.spilt_value i)))))
    ∙ bit_one (cleanable (part false) c.args.columns c.args.n)
