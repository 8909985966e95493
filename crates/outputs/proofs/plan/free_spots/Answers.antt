use mathlib.Core.Path.{sym, ap, ◌∙◌}
use native.Mathlib.Omega.{arith}
use Rattle.outputs.specs.plan.Inner.{spread_of}
use Rattle.outputs.proofs.plan.Planned.{free_at, no_spots}
use Rattle.outputs.proofs.plan.free_spots.Goals as goal

pub returns-then-n-j-clause-by_index : goal.returns-then-n-j-clause-by_index
returns-then-n-j-clause-by_index c = (λ free f. sym (no_spots c.args.t c.args.columns c.args.n free c.args.j c.if-n-j.true))

pub returns-else-n-j-clause-by_index : goal.returns-else-n-j-clause-by_index
returns-else-n-j-clause-by_index c = let h = c.if-n-j.false in (λ free f. c.spread.ensures.value ∙ ap spread_of c.places.ensures ∙ free_at c.args.t c.args.columns c.args.n free c.args.j f c.requires (omega arith))
