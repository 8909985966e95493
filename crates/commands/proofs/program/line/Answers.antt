-- Each answer of the search is turned into its line.
use mathlib.Core.Path.{ap}
use Prim.Native.Nat.{◌≤◌}
use native.Mathlib.Omega.{arith}
use lib.ListN.{length, take}
use Rattle.std.proofs.lemmas.List.{length-take}
use Rattle.text.proofs.pieces.Pieces.{refused_short, found_short}
use Rattle.outcomes.specs.Outcomes.{search_of}
use Rattle.outcomes.proofs.Told.{when_refused, when_found}
use Rattle.printed.specs.job_line.Lines.{line_for, line_of}
use Rattle.commands.proofs.program.line.Goals as goal

pub returns-in-Err : goal.returns-in-Err
unfolding line_of
returns-in-Err c =
    let told = when_refused (search_of c.args.job.now 15) c.search.result c.in-Err.e c.search.ensures.result_value c.in-Err.is in
    let line = c.refused_line.ensures in
    rw (ap line_for told, ← c.from.ensures) (record { value = line.value; upper_bound = rw line.value (refused_short c.from.result); out_after = line.out_after })

pub returns-in-Ok : goal.returns-in-Ok
unfolding line_of
returns-in-Ok c =
    let found = c.in-Ok.found in
    let bytes = take found.size c.search.new.answer in
    let short : length bytes ≤ 15 = omega (arith, length-take found.size c.search.new.answer, c.in-Ok.ensures.result_bound) in
    let told = when_found (search_of c.args.job.now 15) c.search.result found _ c.search.new.answer c.search.ensures.result_value c.in-Ok.is c.search.ensures.answer_after in
    let line = c.found_line.ensures in
    rw (ap line_for told) (record { value = line.value; upper_bound = rw line.value (found_short found.measures bytes short); out_after = line.out_after })
