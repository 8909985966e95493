use Rattle.std.proofs.Common.{◌≡◌, ◌/◌, refl, sym, ap, ◌∙◌, rules, tests}
use borrow.Author.Tests.{eq-eqb, ne_eqb}
use Rattle.std.proofs.lemmas.Iterator.{YieldsList-from_range}
use Rattle.std.proofs.lemmas.Iterator.Search.{all_from_yields_List}
use Rattle.logic.proofs.Chains.{list_all_is_all_below}
use Rattle.gate.specs.Gates.{target_of}
use Rattle.reach_filter.specs.mirrors.Mirrors.{wire_at, same_control, mirrors}
use Rattle.reach_filter.proofs.mirrors.mirrors.Goals as goal
use Rattle.reach_filter.proofs.mirrors.mirrors.Goals.{After-from-2}

-- the targets as the code compares them
targets : (c : After-from-2) → (c.wire_at.result ≡ wire_at c.args.n c.args.p (target_of c.args.h)) × (c.from-2.result / 32 ≡ target_of c.args.g)
targets c = (c.wire_at.ensures.value ∙ ap (λ x. wire_at c.args.n c.args.p (x / 32)) c.from.ensures, ap (λ x. x / 32) c.from-2.ensures)

pub returns-then-wire_at-from : goal.returns-then-wire_at-from
unfolding mirrors
returns-then-wire_at-from c =
    let t = targets (goal.at.returns-then-wire_at-from c).After-from-2 in
    rw (eq-eqb (wire_at c.args.n c.args.p (target_of c.args.h)) (target_of c.args.g) (sym t.0 ∙ c.if-wire_at-from.true ∙ t.1))
    (all_from_yields_List (same_control c.args.n c.args.p c.args.g c.args.h) _ _ _ c.all.ensures.ran (YieldsList-from_range 0 5 5 (cc) refl) (λ x b q k. search (rules, tests))
    ∙ list_all_is_all_below (same_control c.args.n c.args.p c.args.g c.args.h) 5)

pub returns-else-wire_at-from : goal.returns-else-wire_at-from
unfolding mirrors
returns-else-wire_at-from c =
    let t = targets (goal.at.returns-else-wire_at-from c).After-from-2 in
    rw (ne_eqb (wire_at c.args.n c.args.p (target_of c.args.h)) (target_of c.args.g) (λ e. c.if-wire_at-from.false (t.0 ∙ e ∙ sym t.1)))
    (ne_eqb _ _ c.if-wire_at-from.false)
