use mathlib.Core.Path.{sym, ap, ◌∙◌}
use lib.ListN.{length}
use Rattle.printed.proofs.batch_parts.Parts.{parts_short, count_whole}
use Rattle.printed.proofs.batch_parts.batch_parts.Goals as goal

pub returns-then-cut-jobs : goal.returns-then-cut-jobs
returns-then-cut-jobs c = c.cut_off-cut.ensures.count_value ∙ sym (count_whole c.args.jobs.now c.cut_off-cut.result.end c.cut_off-cut.ensures.end_value c.if-cut-jobs.true)

pub returns-else-cut-jobs : goal.returns-else-cut-jobs
returns-else-cut-jobs c = sym (ap length (parts_short c.args.jobs.now c.cut_off-cut.result.end c.cut_off-cut.ensures.end_value c.if-cut-jobs.false))
