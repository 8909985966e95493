-- The sum of four bits is the count below n, for either kind of layout.
use mathlib.Core.Path.{refl, ◌∙◌}
use Rattle.outputs.proofs.Counted.{free_owed, fixed_owed}
use Rattle.outputs.proofs.missing.Goals as goal

pub returns-then-free-eq1-clause-value : goal.returns-then-free-eq1-clause-value
returns-then-free-eq1-clause-value c =
    let e = c.sum.ensures
    ∙ free_owed c.args.t c.args.columns c.args.n c.args.free c.requires _ _ _ _ c.if-free-eq1.true
    c.nowhere.ensures.value c.nowhere-then-free-eq1.ensures.value c.nowhere-then-free-eq1-2.ensures.value c.nowhere-then-free-eq1-3.ensures.value in e

pub returns-else-free-eq1-clause-value : goal.returns-else-free-eq1-clause-value
returns-else-free-eq1-clause-value c =
    let e = c.sum-else-free-eq1.ensures
    ∙ fixed_owed c.args.t c.args.columns c.args.n c.args.free c.requires _ _ _ _ c.if-free-eq1.false
    (c.misses_one.ensures.by_index c.args.columns 0 refl) (c.misses_one-else-free-eq1.ensures.by_index c.args.columns 1 refl)
    (c.misses_one-else-free-eq1-2.ensures.by_index c.args.columns 2 refl) (c.misses_one-else-free-eq1-3.ensures.by_index c.args.columns 3 refl) in e
