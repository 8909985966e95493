-- Each answer of the search is turned into what is printed.
use mathlib.Core.Path.{ap}
use Prim.Native.Nat.{◌≤◌}
use native.Mathlib.Omega.{arith}
use lib.ListN.{length}
use Rattle.logic.specs.Answers.{Answer}
use Rattle.outcomes.specs.Outcomes.{Found, search_of}
use Rattle.outcomes.proofs.Told.{when_refused, when_found}
use Rattle.reports.specs.refusal.Report.{refused_text}
use Rattle.reports.proofs.refusal.Short.{refused_short}
use Rattle.printed.specs.differences.Inner.{both_text}
use Rattle.commands.proofs.compare.put_searched.Goals as goal

pub returns-in-Err : goal.returns-in-Err
returns-in-Err c =
    let told = when_refused (search_of c.args.old.now 15) c.search.result c.in-Err.e c.search.ensures.result_value c.in-Err.is in
    let text = c.refused_text.ensures in
    let fits : length (refused_text c.from.result) ≤ 256 = omega (arith, refused_short c.from.result) in
    rw (ap (λ (o : Answer Found). both_text o (search_of c.args.new.now 15)) told, ← c.from.ensures)
    (record { value = text.value; upper_bound = rw text.value fits; out_after = text.out_after })

pub returns-in-Ok : goal.returns-in-Ok
returns-in-Ok c =
    let told = when_found (search_of c.args.old.now 15) c.search.result c.in-Ok.found _ c.search.new.answer c.search.ensures.result_value c.in-Ok.is c.search.ensures.answer_after in
    rw (ap (λ (o : Answer Found). both_text o (search_of c.args.new.now 15)) told) c.put_after.ensures
