use mathlib.Core.Path.{sym, ◌∙◌}
use Rattle.outputs.proofs.plan.Planned.{fixed_at, no_spots}
use Rattle.outputs.proofs.plan.fixed_spots.Goals as goal

pub returns-then-n-j-clause-by_index : goal.returns-then-n-j-clause-by_index
returns-then-n-j-clause-by_index c = (λ free f. sym (no_spots c.args.t c.args.columns c.args.n free c.args.j c.if-n-j.true))

pub returns-then-fits-clause-by_index : goal.returns-then-fits-clause-by_index
returns-then-fits-clause-by_index c = let y = sym c.fits.ensures ∙ c.if-fits.true in (λ free f. rw y at (fixed_at c.args.t c.args.columns c.args.n free c.args.j f c.if-n-j.false c.requires))

pub returns-else-fits-clause-by_index : goal.returns-else-fits-clause-by_index
returns-else-fits-clause-by_index c = let y = sym c.fits.ensures ∙ c.if-fits.false in (λ free f. rw y at (fixed_at c.args.t c.args.columns c.args.n free c.args.j f c.if-n-j.false c.requires))
