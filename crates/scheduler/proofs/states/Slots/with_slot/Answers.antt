-- One slot is replaced; past the last slot none is.
use mathlib.Core.Path.{◌≡◌}
use native.Mathlib.Omega.{arith}
use borrow.Author.Rules.{rules}
use lib.ListN.{length}
use Rattle.scheduler.proofs.states.Views.{mapped_length, changed, unchanged}
use Rattle.scheduler.proofs.states.Slots.with_slot.Goals as goal
use Rattle.scheduler.proofs.states.Slots.with_slot.Goals.{Start}

long : (s : Start) → length s.args.self.states ≡ 8
long s = search (rules, mapped_length)

pub returns-then-i-lt8 : goal.returns-then-i-lt8
returns-then-i-lt8 c = changed c.args.self c.args.i c.args.state c.args.last

pub returns-else-i-lt8 : goal.returns-else-i-lt8
returns-else-i-lt8 c =
    let l = long (goal.at.returns-else-i-lt8 c).Start in
    unchanged c.args.self c.args.i (omega (arith, c.if-i-lt8.false)) c.args.state c.args.last
