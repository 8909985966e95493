use mathlib.Core.Path.{◌∙◌, sym}
use mathlib.Core.List.{[], ◌∷◌}
use Rattle.near_misses.specs.misses.Columns.{least_left, missed_at_least}
use Rattle.near_misses.proofs.misses.Kept.{none_needed}
use Rattle.near_misses.proofs.fewest.missed_at_least.Goals as goal

pub returns-then-r-ge4 : goal.returns-then-r-ge4
returns-then-r-ge4 c = sym (none_needed c.args.t c.args.columns c.args.n c.args.free c.args.r c.if-r-ge4.true)

pub returns : goal.returns
unfolding missed_at_least
returns c = c.least_left.ensures ∙ (λ i. least_left (c.least_last.ensures.value i ∷ c.least_missed.ensures.value i ∷ c.least_missed-2.ensures.value i ∷ c.least_missed-3.ensures.value i ∷ []) c.args.r)
