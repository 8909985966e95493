use mathlib.Core.Path.{◌≡◌, ap, ◌∙◌}
use borrow.Author.Rules.{rules}
use lib.ListN.{length, get_or}
use Rattle.logic.specs.Lists.{along}
use Rattle.bounds.specs.span.Span.{clear}
use Rattle.logic.proofs.Members.{spelled}
use Rattle.bounds.proofs.elimination.reduced.Goals as goal

pub returns : goal.returns
unfolding along
returns c =
    let l : length c.args.basis ≡ 6 = search rules in
    c.clear_three.ensures ∙ ap (λ y. clear (get_or c.args.basis 5 0) (clear (get_or c.args.basis 4 0) (clear (get_or c.args.basis 3 0) y))) c.clear_three-half.ensures
    ∙ ap (λ m. along clear m c.args.x) (spelled c.args.basis 6 l)
