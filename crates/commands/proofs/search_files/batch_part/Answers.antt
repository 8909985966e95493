-- Where the bytes are a batch part i is the line of job i, and else the only part is the refusal.
use mathlib.Core.Path.{◌≡◌, sym, ap, ◌∙◌}
use Prim.Native.Nat.{◌<◌}
use native.Mathlib.Omega.{arith}
use Rattle.batch.specs.cutting.Records.{count_of, job_at}
use Rattle.printed.specs.job_line.Lines.{line_of}
use Rattle.reports.specs.refusal.Report.{refused_text}
use Rattle.reports.proofs.refusal.Short.{refused_short}
use Rattle.printed.specs.batch_parts.Parts.{part_at}
use Rattle.printed.proofs.batch_parts.Parts.{count_whole, line_whole, line_short}
use Rattle.commands.proofs.search_files.batch_part.Goals as goal
use Rattle.commands.proofs.search_files.batch_part.Goals.{Then-cut-jobs}

-- the bytes are a batch
module _ (c : Then-cut-jobs) where
  here : c.args.i < count_of c.args.jobs.now
  here =
      let e = count_whole c.args.jobs.now c.cut_off-cut.result.end c.cut_off-cut.ensures.end_value c.if-cut-jobs.true in
      let h = c.requires.i_in_bounds in
      omega arith

  its_line : part_at c.args.jobs.now c.args.i
      ≡ line_of (job_at c.args.jobs.now c.args.i)
  its_line =
      line_whole c.args.jobs.now c.cut_off-cut.result.end c.cut_off-cut.ensures.end_value c.args.i c.if-cut-jobs.true here

pub job_line-requires-clause-i_bound : goal.job_line-requires-clause-i_bound
job_line-requires-clause-i_bound c = here (goal.at.job_line-requires-clause-i_bound c).Then-cut-jobs

pub returns-then-cut-jobs : goal.returns-then-cut-jobs
returns-then-cut-jobs c = rw (its_line (goal.at.returns-then-cut-jobs c).Then-cut-jobs) c.job_line.ensures

pub returns-else-cut-jobs : goal.returns-else-cut-jobs
returns-else-cut-jobs c =
    let e = line_short c.args.jobs.now c.cut_off-cut.result.end c.cut_off-cut.ensures.end_value c.args.i c.if-cut-jobs.false c.requires.i_in_bounds
    ∙ ap refused_text (sym c.from.ensures) in
    let text = c.refused_text.ensures in
    rw e (record { value = text.value; upper_bound = rw text.value (refused_short c.from.result); out_after = text.out_after })
