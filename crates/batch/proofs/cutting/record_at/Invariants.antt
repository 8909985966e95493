-- Invariant: of the records from `start` on, the one sought is that with index i - k.
use mathlib.Core.Path.{◌≡◌}
use mathlib.Core.List.{[]}
use Prim.Native.Nat.{◌-◌, ◌<◌, ◌≤◌}
use lib.ListN.{length, get_or, drop}
use Rattle.batch.specs.cutting.Records.{records, job_at}
use Rattle.batch.proofs.cutting.record_at.Given as goal

abbrev pub invariant-loop-k : goal.invariant-loop-k
invariant-loop-k l = (l.start ≤ length l.jobs) × ((l.i - l._k < length (records (64 - l._k) (drop l.start l.jobs)))
    × (get_or (records (64 - l._k) (drop l.start l.jobs)) (l.i - l._k) [] ≡ job_at l.jobs l.i))
