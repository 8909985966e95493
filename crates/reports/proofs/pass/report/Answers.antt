use Rattle.reports.specs.refusal.Report.{report_of}
use Rattle.reports.proofs.refusal.Short.{refused_short, passed_short}
use Rattle.reports.proofs.pass.report.Goals as goal

pub returns-in-Ok : goal.returns-in-Ok
unfolding report_of
returns-in-Ok c =
    rw c.in-Ok.is
    (record { value = c.passed_text.ensures.value; upper_bound = rw c.passed_text.ensures.value (passed_short c.in-Ok.m); out_after = c.passed_text.ensures.out_after })

pub returns-in-Err : goal.returns-in-Err
unfolding report_of
returns-in-Err c =
    rw c.in-Err.is
    (record { value = c.refused_text.ensures.value; upper_bound = rw c.refused_text.ensures.value (refused_short c.in-Err.code); out_after = c.refused_text.ensures.out_after })
