use Rattle.std.proofs.Common.{rules, tests, length, refl, arith, ◌∙◌}
use Rattle.std.proofs.lemmas.Iterator.{YieldsList-from_range}
use Rattle.std.proofs.lemmas.Iterator.Search.{all_from_yields_List}
use Rattle.logic.proofs.Chains.{list_all_is_all_below}
use Rattle.sensitivity.specs.alike.Alike.{same_but, alike_but}
use Rattle.sensitivity.proofs.alike.alike_but.Goals as goal

pub returns : goal.returns
unfolding alike_but
returns c =
    all_from_yields_List (same_but c.args.old.now c.args.new.now c.args.place) _ _ _ c.all.ensures.ran
    (YieldsList-from_range 0 (length c.args.old.now) (length c.args.old.now) refl (omega arith))
    (λ x b q k. search (rules, tests))
    ∙ list_all_is_all_below (same_but c.args.old.now c.args.new.now c.args.place) (length c.args.old.now)
