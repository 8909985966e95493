use mathlib.Core.Path.{◌∙◌, ap}
use mathlib.Core.List.{[]}
use Rattle.bounds.specs.span.Span.{needed, fresh, rests, generators}
use Rattle.bounds.proofs.elimination.needed.Goals as goal

pub returns-clause-value : goal.returns-clause-value
unfolding needed
returns-clause-value c = let basis = c.base.ensures ∙ ap (λ m. rests m (generators c.args.columns) []) c.full_rows-rows.ensures in c.fresh.ensures.value ∙ (λ i. fresh (c.full_rows-rows.ensures i) (c.first.ensures i) (basis i))
