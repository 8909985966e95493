use mathlib.Core.Path.{refl, sym, ◌∙◌}
use mathlib.Core.List.Memᴰ
use mathlib.Core.List.{[], ◌∷◌, ◌++◌, Memᴰ}
use Rattle.walk.proofs.node.Nodes.{needs_light, needs_span}
use Rattle.walk.proofs.advance.still_needed.Goals as goal

pub returns-then-not-heavy-clause-needs : goal.returns-then-not-heavy-clause-needs
returns-then-not-heavy-clause-needs c = let light = sym c.heavy.ensures ∙ c.if-not-heavy.true in (λ P l asks among e n. needs_light P l c.args.g c.args.needs (among c.args.g (Memᴰ.append_right l (Memᴰ.head refl))) light n)

pub returns-clause-needs : goal.returns-clause-needs
returns-clause-needs c = let k = c.needed.ensures.upper_bound in (λ P l asks among e n. needs_span P c.args.task asks (l ++ (c.args.g ∷ [])) c.args.columns among e c.needed.result c.needed.ensures.value)
