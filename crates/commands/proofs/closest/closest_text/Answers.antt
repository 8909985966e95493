-- Each answer of the call is turned into what is printed.
use mathlib.Core.Path.{ap}
use Rattle.reports.proofs.refusal.Short.{refused_short}
use Rattle.approximate.specs.Calls.{closest_of}
use Rattle.approximate.proofs.Told.{when_refused, when_found}
use Rattle.printed.specs.misses.Closeness.{closest_text, printed_closest}
use Rattle.printed.specs.misses.Inner.{both_lines}
use Rattle.commands.proofs.closest.closest_text.Goals as goal

pub returns-in-Err : goal.returns-in-Err
unfolding closest_text
returns-in-Err c =
    let told = when_refused (closest_of c.args.job.now 15) c.closest.result c.in-Err.e c.closest.ensures.result_value c.in-Err.is in
    let text = c.refused_text.ensures in
    rw (ap printed_closest told, ← c.from.ensures) (record { value = text.value; upper_bound = rw text.value (refused_short c.from.result); out_after = text.out_after })

pub returns-in-Ok : goal.returns-in-Ok
unfolding closest_text both_lines
returns-in-Ok c =
    let told = when_found (closest_of c.args.job.now 15) c.closest.result c.in-Ok.nearest _ c.closest.new.answer c.closest.ensures.result_value c.in-Ok.is c.closest.ensures.answer_after in
    let lines = c.put_close.ensures in
    rw (ap printed_closest told) (record { value = lines.value; upper_bound = lines.upper_bound; out_after = lines.out_after })
