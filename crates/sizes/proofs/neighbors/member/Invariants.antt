-- Invariant: among the unused values from x on, the one sought has `ahead` smaller ones.
use Rattle.std.proofs.Common.{◌≡◌, get_or}
use Rattle.sizes.specs.permutations.Inner.{members}
use Rattle.sizes.proofs.neighbors.Digits.{members_from}
use Rattle.sizes.proofs.neighbors.member.Given as goal

abbrev pub invariant-loop-x : goal.invariant-loop-x
invariant-loop-x l = get_or (members_from l.m l.x) l.ahead 0 ≡ get_or (members l.m) l.d 0
