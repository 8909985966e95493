-- The slot there is, or past the last slot an empty one.
use mathlib.Core.Path.{◌≡◌, refl}
use native.Mathlib.Omega.{arith}
use borrow.Author.Rules.{rules}
use lib.ListN.{length}
use Rattle.scheduler.proofs.states.Views.{slot_is, none_past, mapped_length}
use Rattle.scheduler.proofs.states.Slots.slot_at.Goals as goal
use Rattle.scheduler.proofs.states.Slots.slot_at.Goals.{Start}

long : (s : Start) → length s.args.self.now.states ≡ 8
long s = search (rules, mapped_length)

pub returns-then-i-lt8 : goal.returns-then-i-lt8
returns-then-i-lt8 c = slot_is c.args.self.now c.args.i _ refl

pub returns-else-i-lt8 : goal.returns-else-i-lt8
returns-else-i-lt8 c =
    let l = long (goal.at.returns-else-i-lt8 c).Start in
    none_past c.args.self.now c.args.i (omega (arith, c.if-i-lt8.false)) _ c.vacant.ensures.slot
