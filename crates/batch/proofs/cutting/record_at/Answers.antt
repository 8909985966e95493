use mathlib.Core.Path.{◌≡◌, sym, ◌∙◌}
use mathlib.Core.List.{List}
use Prim.Native.Nat.{ℕ, ◌+◌, ◌-◌, ◌≤◌}
use native.Mathlib.Omega.{arith}
use lib.ListN.{length, take, drop, length-drop}
use Rattle.batch.proofs.cutting.Cutting.{rest_is, seek_turn, seek_done}
use Rattle.batch.proofs.cutting.record_at.Goals as goal
use Rattle.batch.proofs.cutting.record_at.Goals.{After-record_size, After-record_size-start}

-- a record lies within
within : (jobs : List ℕ) (start size : ℕ) → start ≤ length jobs → size ≤ length (take (length jobs - start) (drop start jobs)) → start + size ≤ length jobs
within jobs start size h k = let f = rw (rest_is jobs start) at k in omega (arith, length-drop start jobs)

-- the end of the record that the loop is at
module _ (c : After-record_size-start) where
  ahead : c.loop-k.start + c.record_size-start.result ≤ length c.args.jobs.now
  ahead =
      within c.args.jobs.now c.loop-k.start c.record_size-start.result c.loop-k.invariant.0 c.record_size-start.ensures.upper_bound

module _ (c : After-record_size) where
  last : c.loop-k.start + c.record_size.result ≤ length c.args.jobs.now
  last =
      within c.args.jobs.now c.loop-k.start c.record_size.result c.loop-k.invariant.0 c.record_size.ensures.upper_bound

pub loop-k-preserved : goal.loop-k-preserved
loop-k-preserved c =
    let t = seek_turn c.args.jobs.now c.loop-k._k c.loop-k.start c.record_size-start.result c.record_size-start.ensures.value c.args.i c.loop-k-test.true c.loop-k.invariant.1.0 in
    (ahead (goal.at.loop-k-preserved c).After-record_size-start, (t.0, sym t.1 ∙ c.loop-k.invariant.1.1))

pub returns-clause-jobs_value : goal.returns-clause-jobs_value
returns-clause-jobs_value c =
    let h = c.loop-k-test.false in
    let k = c.loop-k.auto in
    let e : c.loop-k.start + c.record_size.result - c.loop-k.start ≡ c.record_size.result = omega arith in
    let d = seek_done c.args.jobs.now c.loop-k._k c.loop-k.start c.record_size.result c.record_size.ensures.value c.args.i (omega arith) c.loop-k.invariant.1.0 in rw e (d ∙ c.loop-k.invariant.1.1)
