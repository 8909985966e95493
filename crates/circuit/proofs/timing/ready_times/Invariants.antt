-- The gates hold their wires one by one. Invariant: the gates that are left, started at the current times, end at the ready times of the
-- whole list; no current time is above 255 times the number of gates so far, so that the next sum fits.
use Rattle.std.proofs.Common.{◌≡◌, ℕ, ◌≤◌, ◌*◌, drop, get_or}
use Rattle.logic.specs.Lists.{along}
use Rattle.circuit.specs.Measure.{hold_byte, ready_times}
use Rattle.circuit.proofs.timing.ready_times.Given as goal

abbrev pub invariant-loop-b : goal.invariant-loop-b
invariant-loop-b g l = record {
  early : (w : ℕ) → get_or l.times w 0 ≤ 255 * l.b-index;
  left : along (hold_byte (g.R.Rate.rate l.durations)) (drop l.b-index l.gates) l.times ≡ ready_times (g.R.Rate.rate l.durations) l.gates;
}
