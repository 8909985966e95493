use mathlib.Core.Path.{◌≡◌, ap, ◌∙◌}
use native.Mathlib.Omega.{arith}
use lib.ListN.{length, set}
use lib.Seq.{get_or-set_same}
use Rattle.gate.specs.Gates.{target_of, gate_of}
use Rattle.gate.specs.Inner.{column_step}
use borrow.Author.Rules.{rules}
use Rattle.outputs.proofs.product_step.step.Goals as goal

pub returns : goal.returns
unfolding column_step gate_of
returns c k t hk hg e =
    let l : length c.args.columns ≡ 5 = search rules in
    let h = c.requires.g_bound in
    c.with_cell.ensures
    ∙ ap (λ w. set c.args.columns w c.next_column.result) c.from-t.ensures
    ∙ ap (set c.args.columns (target_of c.args.g))
    (c.next_column.ensures k t c.args.columns hk hg l e ∙ get_or-set_same c.args.columns (target_of c.args.g) _ 0 (omega arith))
