use Rattle.std.proofs.Common.{◌≡◌, true, ◌<◌, get_or, arith, rules, tests}
use Rattle.std.proofs.lemmas.Bool.Decides.{when_true}
use Rattle.std.proofs.lemmas.Iterator.{cases_from_any, YieldsList-from_slice}
use Rattle.std.proofs.lemmas.Iterator.Adapters.{serves_from_places}
use Rattle.std.proofs.lemmas.List.{get_or_read}
use Rattle.logic.proofs.Members.{member_at}
use Rattle.gate.proofs.Widen.{parts}
use Rattle.gate.specs.Gates.{target_of}
use Rattle.reach_filter.specs.mirrors.Mirrors.{mirrors}
use Rattle.reach_filter.proofs.mirrors.Turn.{width_le}
use Rattle.reach_filter.proofs.mirrors.has_mirror.Goals as goal

pub any-requires-clause-callable : goal.any-requires-clause-callable
any-requires-clause-callable c =
    serves_from_places (YieldsList-from_slice c.args.gates.now cc) (λ x q r. search rules)
    (λ x k l e.
    let p = (parts 3 _ _ (c.requires.by_index k l)).target in
    let s = get_or_read c.args.gates.now k x.now l e 0 in
    let w = width_le c.args.n c.requires.width in
    let t : target_of x.now < 5 = omega arith in
    search rules)

pub returns : goal.returns
returns c =
    λ e.
    let w = when_true _ _ e (cases_from_any _ _ _ (λ h. mirrors c.args.n c.args.p c.args.g h ≡ true) (λ h. Unit {0}) c.any.ensures.ran (YieldsList-from_slice c.args.gates.now cc) (λ x q k. search (rules, tests)) (λ x q k. search (rules, tests))) in
    (get_or c.args.gates.now w.0 0, (member_at c.args.gates.now w.0 w.1, w.2 0))
