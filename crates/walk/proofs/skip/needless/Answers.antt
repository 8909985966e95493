use mathlib.Core.Path.{ap₂, ◌∙◌}
use Rattle.logic.specs.Rules.{either}
use Rattle.walk.proofs.node.Forms.{needless_told}
use Rattle.walk.proofs.skip.needless.Goals as goal

pub returns : goal.returns
returns c =
    λ P task asks at m ht.
    c.either.ensures
    ∙ ap₂ either (c.idle.ensures task.controls task.wanted c.args.s.columns asks.fair.few (asks.kinds c.args.g m) ht) c.marked.ensures
    ∙ needless_told P task asks c.args.s c.args.g at m
