-- Each column is cleared by those before it; what stays is one more dimension.
use mathlib.Core.Path.{◌≡◌, ap, ◌∙◌}
use native.Mathlib.Omega.{arith}
use lib.ListN.{length}
use Rattle.bounds.specs.span.Span.{clear}
use Rattle.bounds.proofs.span.Spelled.{fresh_four}
use borrow.Author.Rules.{rules}
use Rattle.bounds.proofs.elimination.fresh.Goals as goal

pub returns-clause-value : goal.returns-clause-value
returns-clause-value c =
    let l : length c.args.columns ≡ 4 = search rules in
    let e = fresh_four c.args.rows c.args.columns c.args.basis l c.reduced-a.result c.clear-b.result c.clear_two-c.result c.clear_three-d.result
    c.reduced-a.ensures
    (c.clear-b.ensures ∙ ap (clear c.reduced-a.result) c.reduced.ensures)
    (c.clear_two-c.ensures ∙ ap (λ x. clear c.clear-b.result (clear c.reduced-a.result x)) c.reduced-2.ensures)
    (c.clear_three-d.ensures ∙ ap (λ x. clear c.clear_two-c.result (clear c.clear-b.result (clear c.reduced-a.result x))) c.reduced-3.ensures) in omega arith
