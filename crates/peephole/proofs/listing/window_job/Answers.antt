use mathlib.Core.Path.{◌≡◌, sym, ap, ◌∙◌}
use mathlib.Core.List.{◌++◌, map}
use Prim.Native.Nat.{ℕ, ◌+◌, ◌^◌}
use native.Mathlib.Omega.{arith}
use borrow.Author.Rules.{rules}
use lib.ListN.{length, take, length-set}
use Rattle.logic.specs.Lists.{numbers_from}
use Rattle.peephole.specs.windows.Windows.{window_job}
use Rattle.peephole.proofs.windows.Buffers.{row_more}
use Rattle.peephole.proofs.listing.window_job.Goals as goal
use Rattle.peephole.proofs.listing.window_job.Invariants.{row_of}

pub loop-x-preserved : goal.loop-x-preserved
loop-x-preserved c =
    let n : length c.head-job.result ≡ 28 = search rules in
    let few = c.value_count-count.ensures.lower_bound.1 in (
      simp length-set c.loop-x.invariant.0,
      row_more (row_of c.value_count-count.result c.args.gates.now) (take 12 c.head-job.result) c.loop-x.job c.loop-x.x c.row.result (omega arith) c.loop-x.invariant.1 c.row.ensures,
    )

pub returns : goal.returns
unfolding window_job
returns c =
    let x : c.loop-x.x ≡ 2 ^ c.args.wires = omega (arith, c.loop-x.auto, c.value_count-count.ensures.value) in
    ap (λ (k : ℕ). take (12 + k) c.loop-x.job) (sym x)
    ∙ c.loop-x.invariant.1
    ∙ (λ i. c.head-job.ensures i ++ map (row_of (c.value_count-count.ensures.value i) c.args.gates.now) (numbers_from 0 (x i)))
