-- Both kinds of layout pack the spots of four outputs and of the ancilla; `lost` is what remains where every spot is empty.
use mathlib.Core.Path.{◌≡◌, ap, ◌∙◌}
use mathlib.Core.Bool.{not}
use lib.Dec.{eqb}
use Rattle.logic.specs.Rules.{bit}
use Rattle.logic.proofs.Chains.{from_bool_is_bit}
use Rattle.columns.specs.Wanted.{tidy}
use Rattle.outputs.specs.declared.plan.Plan.{Plan}
use Rattle.outputs.specs.plan.Inner.{spoilt_spots}
use Rattle.outputs.proofs.plan.Planned.{plan_is, lost_at}
use Rattle.outputs.proofs.plan.plan_of.Goals as goal
use Rattle.outputs.proofs.plan.plan_of.Goals.{After-from-unclean}

-- the ancilla's spots, and whether it is spoilt
ancilla : (c : After-from-unclean)
    → (c.spoilt_spots-spoilt.result ≡ spoilt_spots c.args.columns c.args.n) × (c.from-unclean.result ≡ bit (not (tidy c.args.n c.args.columns)))
ancilla c =
    let e = ap (λ d. eqb d 0) c.spilt-clean.ensures in
    (c.spoilt_spots-spoilt.ensures.by_index c.args.columns e, c.from-unclean.ensures ∙ from_bool_is_bit _ ∙ ap (λ b. bit (not b)) e)

pub returns-then-free-eq1-clause-lost_value : goal.returns-then-free-eq1-clause-lost_value
returns-then-free-eq1-clause-lost_value c =
    let k = ancilla (goal.at.returns-then-free-eq1-clause-lost_value c).After-from-unclean in
    let e = c.pack.ensures ∙ plan_is c.args.t c.args.columns c.args.n c.args.free c.requires _ _ _ _ _ _
    (c.free_spots.ensures.by_index c.args.free c.if-free-eq1.true) (c.free_spots-then-free-eq1.ensures.by_index c.args.free c.if-free-eq1.true)
    (c.free_spots-then-free-eq1-2.ensures.by_index c.args.free c.if-free-eq1.true) (c.free_spots-then-free-eq1-3.ensures.by_index c.args.free c.if-free-eq1.true) k.0 k.1 in ap (λ (p : Plan). p.lost) e ∙ lost_at c.args.t c.args.columns c.args.n c.args.free c.requires

pub returns-then-free-eq1-clause-value : goal.returns-then-free-eq1-clause-value
returns-then-free-eq1-clause-value c =
    let k = ancilla (goal.at.returns-then-free-eq1-clause-value c).After-from-unclean in
    let e = c.pack.ensures ∙ plan_is c.args.t c.args.columns c.args.n c.args.free c.requires _ _ _ _ _ _
    (c.free_spots.ensures.by_index c.args.free c.if-free-eq1.true) (c.free_spots-then-free-eq1.ensures.by_index c.args.free c.if-free-eq1.true)
    (c.free_spots-then-free-eq1-2.ensures.by_index c.args.free c.if-free-eq1.true) (c.free_spots-then-free-eq1-3.ensures.by_index c.args.free c.if-free-eq1.true) k.0 k.1 in e

pub returns-else-free-eq1-clause-lost_value : goal.returns-else-free-eq1-clause-lost_value
returns-else-free-eq1-clause-lost_value c =
    let k = ancilla (goal.at.returns-else-free-eq1-clause-lost_value c).After-from-unclean in
    let e = c.pack-else-free-eq1.ensures ∙ plan_is c.args.t c.args.columns c.args.n c.args.free c.requires _ _ _ _ _ _
    (c.fixed_spots.ensures.by_index c.args.free c.if-free-eq1.false) (c.fixed_spots-else-free-eq1.ensures.by_index c.args.free c.if-free-eq1.false)
    (c.fixed_spots-else-free-eq1-2.ensures.by_index c.args.free c.if-free-eq1.false) (c.fixed_spots-else-free-eq1-3.ensures.by_index c.args.free c.if-free-eq1.false) k.0 k.1 in ap (λ (p : Plan). p.lost) e ∙ lost_at c.args.t c.args.columns c.args.n c.args.free c.requires

pub returns-else-free-eq1-clause-value : goal.returns-else-free-eq1-clause-value
returns-else-free-eq1-clause-value c =
    let k = ancilla (goal.at.returns-else-free-eq1-clause-value c).After-from-unclean in
    let e = c.pack-else-free-eq1.ensures ∙ plan_is c.args.t c.args.columns c.args.n c.args.free c.requires _ _ _ _ _ _
    (c.fixed_spots.ensures.by_index c.args.free c.if-free-eq1.false) (c.fixed_spots-else-free-eq1.ensures.by_index c.args.free c.if-free-eq1.false)
    (c.fixed_spots-else-free-eq1-2.ensures.by_index c.args.free c.if-free-eq1.false) (c.fixed_spots-else-free-eq1-3.ensures.by_index c.args.free c.if-free-eq1.false) k.0 k.1 in e
