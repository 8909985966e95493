use mathlib.Core.Path.{sym, ◌∙◌}
use Rattle.outputs.proofs.Wires.{narrow}
use Rattle.outputs.proofs.plan.Planned.{spoilt_at}
use Rattle.outputs.proofs.plan.spoilt_spots.Goals as goal

pub returns-then-clean-clause-by_index : goal.returns-then-clean-clause-by_index
returns-then-clean-clause-by_index c = let h = narrow c.requires in (λ cs e. rw (sym e ∙ c.if-clean.true) at (spoilt_at cs c.args.n h))

pub returns-else-clean-clause-by_index : goal.returns-else-clean-clause-by_index
returns-else-clean-clause-by_index c = let h = narrow c.requires in (λ cs e. rw (sym e ∙ c.if-clean.false) at (spoilt_at cs c.args.n h))
