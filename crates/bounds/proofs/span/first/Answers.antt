use mathlib.Core.Path.{◌≡◌, ap, ◌∙◌}
use mathlib.Core.List.{[], ◌∷◌}
use borrow.Author.Rules.{rules}
use lib.ListN.{length}
use Rattle.bounds.specs.span.Span.{first}
use Rattle.logic.proofs.Members.{spelled}
use Rattle.bounds.proofs.span.first.Goals as goal

pub returns : goal.returns
unfolding first
returns c =
    let l : length c.args.columns ≡ 4 = search rules in
    (λ i. c.pick.ensures i ∷ c.pick-2.ensures i ∷ c.pick-3.ensures i ∷ c.pick-4.ensures i ∷ [])
    ∙ ap (first 0 c.args.n c.args.d) (spelled c.args.columns 4 l)
