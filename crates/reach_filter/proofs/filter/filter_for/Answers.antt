use Rattle.std.proofs.Common.{sym, ◌∙◌}
use Rattle.std.proofs.lemmas.Bool.{false≢true}
use Rattle.reach_filter.proofs.fill.Sieves.{either_sieve}
use Rattle.reach_filter.proofs.filter.filter_for.Goals as goal
use Rattle.reach_filter.proofs.filter.filter_for.Goals.{then-reach-ne0, else-reach-ne0}

pub returns : goal.returns
returns c =
    λ k.
    either_sieve c.fill_wanted.new.bits c.args.gates.now c.reach_of-reach.result c.kept-used.result _ k c.args.t c.args.n c.args.free c.kept-used.ensures
    (λ h. elim c.if-reach-ne0.branch [ then-reach-ne0 w ↦ w.sound-good.ensures (sym w.good-is ∙ h) | else-reach-ne0 w ↦ absurd (false≢true (rw w.if-reach-ne0.false at (sym w.good-is ∙ h))) ]) c.reach_of-reach.ensures.1 c.fill_wanted.ensures
