-- Four lists, by the width and by whether the layout is free: each constant is the list that the definition gives, by computing.
use Rattle.std.proofs.Common.{ℕ, [], ◌∷◌, sym, ap, ap₂, ◌∙◌}
use Rattle.table.specs.layouts.Layouts.{plain, layouts_for, layout_ok}
use Rattle.table.proofs.layouts.Named.{fixed, four}
use Rattle.table.proofs.layouts.listed.Goals as goal

pub returns-in-3-eq1 : goal.returns-in-3-eq1
unfolding layouts_for layout_ok
returns-in-3-eq1 c = sym (ap₂ layouts_for c.in-3-eq1.is-0 c.in-3-eq1.is-1)

pub returns-in_default-eq1 : goal.returns-in_default-eq1
unfolding layouts_for layout_ok
returns-in_default-eq1 c = sym (ap₂ layouts_for (four c.requires c.in_default-eq1.is-0.1) c.in_default-eq1.is-1)

pub returns-in-3-default : goal.returns-in-3-default
returns-in-3-default c = sym (fixed c.args.n c.args.free c.in-3-default.is-1.1 ∙ ap (λ (n : ℕ). plain n ∷ []) c.in-3-default.is-0)

pub returns-in_default : goal.returns-in_default
returns-in_default c = sym (fixed c.args.n c.args.free c.in_default.is-1.1 ∙ ap (λ (n : ℕ). plain n ∷ []) (four c.requires c.in_default.is-0.1))
