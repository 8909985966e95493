use mathlib.Core.Path.{◌∙◌, ap₂}
use lib.Dec.{eqb}
use Rattle.logic.specs.Rules.{both}
use Rattle.outcomes.specs.preflight.Odd.{always_none}
use Rattle.outcomes.proofs.preflight.always_none.Goals as goal

pub returns : goal.returns
unfolding always_none
returns c =
    let bare = c.both-bare.ensures ∙ (λ i. both (eqb (c.data_wires.ensures.value i) 4) (eqb (c.ancillas.ensures i) 0)) in
    let odd = c.both-odd.ensures ∙ (λ i. both (eqb (c.most_controls.ensures i) 2) (c.odd_table.ensures i)) in
    c.both.ensures ∙ ap₂ both bare odd
