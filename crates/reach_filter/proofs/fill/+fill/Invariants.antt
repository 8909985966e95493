-- The recursion: the state itself is put in, then all within one gate fewer of what each gate makes of it. The invariant: no bit was
-- cleared, and the gates passed are done.
use mathlib.Core.Path.{◌≡◌}
use Prim.Native.Nat.{ℕ, ◌-◌, ◌≤◌, ◌<◌}
use lib.ListN.{length, get_or}
use Rattle.gate.specs.Gates.{gate_of}
use Rattle.gate.specs.Inner.{column_step}
use Rattle.bloom.specs.hash.Reach.{Seen}
use Rattle.bloom.specs.bits.Places.{Grown}
use Rattle.reach_filter.specs.fill.Sieve.{Near}
use Rattle.reach_filter.proofs.fill.+fill.Given as goal

abbrev pub invariant-loop-g : goal.invariant-loop-g
invariant-loop-g l = (1 ≤ l.k) × (length l.bits ≡ length l.initial.bits) × Grown l.initial.bits l.bits
    × ((j : ℕ) → j < l.g-index → Near (Seen l.bits l.reach) l.gates (column_step (gate_of (get_or l.gates j 0)) l.columns) (l.k - 1))

abbrev pub decreases-fill : goal.decreases-fill
decreases-fill l = l.k
