-- The invariant: `any` says, as a bit, whether one of the products passed is a hit.
use mathlib.Core.Path.{◌≡◌}
use Rattle.logic.specs.Rules.{bit, some_below}
use Rattle.repairs.specs.matches.Inner.{any_hit}
use Rattle.repairs.proofs.matches.hits.Given as goal

abbrev pub invariant-loop-i : goal.invariant-loop-i
invariant-loop-i l = l.any ≡ bit (some_below l.i (any_hit l.p-items l.a l.b l.c l.d))
