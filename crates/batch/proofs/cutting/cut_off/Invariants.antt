-- Invariant: the records cut off and those still to come are all of them, and so are their bytes.
use mathlib.Core.Path.{◌≡◌}
use Prim.Native.Nat.{◌+◌, ◌-◌, ◌≤◌}
use lib.ListN.{length, drop}
use Rattle.logic.specs.Lists.{total}
use Rattle.batch.specs.cutting.Records.{records, records_of, count_of}
use Rattle.batch.proofs.cutting.cut_off.Given as goal

abbrev pub invariant-loop-count : goal.invariant-loop-count
invariant-loop-count l = (l.end ≤ length l.jobs) × ((l.count + length (records (64 - l.count) (drop l.end l.jobs)) ≡ count_of l.jobs)
    × (l.end + total length (records (64 - l.count) (drop l.end l.jobs)) ≡ total length (records_of l.jobs)))
