-- The table is filled gate by gate. Invariant: its first places hold the entries of the gates passed.
use Rattle.std.proofs.Common.{◌≡◌, length, take, map}
use Rattle.outcomes.specs.Inner.{weighed}
use Rattle.outcomes.proofs.preflight.weigh.Given as goal

abbrev pub invariant-loop-i : goal.invariant-loop-i
invariant-loop-i l = (length l.entries ≡ 75) × (take l.i l.entries ≡ map (weighed l.prices l.durations) (take l.i l.gates))
