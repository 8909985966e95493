-- Each answer of the search is turned into what is printed.
use mathlib.Core.Path.{ap}
use Prim.Native.Nat.{◌≤◌}
use native.Mathlib.Omega.{arith}
use lib.ListN.{length, take}
use Rattle.std.proofs.lemmas.List.{length-take}
use Rattle.outcomes.specs.Outcomes.{search_of}
use Rattle.outcomes.proofs.Told.{when_refused, when_found}
use Rattle.reports.specs.refusal.Report.{refused_text}
use Rattle.reports.proofs.refusal.Short.{refused_short}
use Rattle.printed.specs.differences.Inner.{after_old}
use Rattle.printed.proofs.differences.Short.{both_short}
use Rattle.commands.proofs.compare.put_after.Goals as goal

pub returns-in-Err : goal.returns-in-Err
returns-in-Err c =
    let told = when_refused (search_of c.args.new.now 15) c.search.result c.in-Err.e c.search.ensures.result_value c.in-Err.is in
    let text = c.refused_text.ensures in
    let fits : length (refused_text c.from.result) ≤ 256 = omega (arith, refused_short c.from.result) in
    rw (ap (after_old c.args.m c.args.circuit.now) told, ← c.from.ensures) (record { value = text.value; upper_bound = rw text.value fits; out_after = text.out_after })

pub returns-in-Ok : goal.returns-in-Ok
returns-in-Ok c =
    let found = c.in-Ok.found in
    let bytes = take found.size c.search.new.answer in
    let short : length bytes ≤ 15 = omega (arith, length-take found.size c.search.new.answer, c.in-Ok.ensures.result_bound) in
    let told = when_found (search_of c.args.new.now 15) c.search.result found _ c.search.new.answer c.search.ensures.result_value c.in-Ok.is c.search.ensures.answer_after in
    let both = c.put_both.ensures in
    rw (ap (after_old c.args.m c.args.circuit.now) told)
    (record { value = both.value; upper_bound = rw both.value (both_short c.args.m c.args.circuit.now found.measures bytes c.requires.circuit_len_bound short); out_after = both.out_after })
