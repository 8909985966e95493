-- Each answer of the search is turned into what is printed.
use mathlib.Core.Path.{◌≡◌}
use mathlib.Core.List.{List, ◌++◌, append-nil, append_assoc}
use Prim.Native.Nat.{ℕ, ◌≤◌}
use native.Mathlib.Omega.{arith}
use lib.ListN.{length, take}
use Rattle.std.proofs.lemmas.List.{length-take}
use Rattle.logic.specs.Answers.{Answer, refused, answered}
use Rattle.circuit.specs.declared.measures.Measures.{Measures}
use Rattle.outcomes.specs.Outcomes.{Found}
use Rattle.outcomes.proofs.Told.{when_refused, when_found}
use Rattle.text.specs.pieces.Text.{refused_line, found_line}
use Rattle.text.proofs.pieces.Pieces.{found_short}
use Rattle.printed.specs.job_line.Lines.{line_for}
use Rattle.reports.specs.refusal.Report.{refused_text}
use Rattle.reports.proofs.refusal.Short.{refused_short}
use Rattle.printed.specs.files.Files.{lent, finding, explained, search_text}
use Rattle.commands.proofs.search_files.search_text.Goals as goal

refused_is : (o : Answer Found) (code : ℕ) → o ≡ refused code → line_for o ++ explained o ≡ refused_text code
unfolding refused_text refused_line
refused_is o code e = rw (e, append_assoc)

found_is : (o : Answer Found) (m : Measures) (bytes : List ℕ) → o ≡ answered (record { bytes = bytes; measures = m }) → line_for o ++ explained o ≡ found_line m bytes
found_is o m bytes e = rw (e, append-nil)

pub returns-in-Err : goal.returns-in-Err
unfolding search_text
returns-in-Err c =
    let o = finding c.args.job.now (lent c.args.library) 15 in
    let told = when_refused o c.find.result c.in-Err.e c.find.ensures.result_value c.in-Err.is in
    let text = c.refused_text.ensures in
    rw (refused_is o _ told, ← c.from.ensures) (record { value = text.value; upper_bound = rw text.value (refused_short c.from.result); out_after = text.out_after })

pub returns-in-Ok : goal.returns-in-Ok
unfolding search_text
returns-in-Ok c =
    let o = finding c.args.job.now (lent c.args.library) 15 in
    let found = c.in-Ok.found in
    let bytes = take found.size c.find.new.answer in
    let short : length bytes ≤ 15 = omega (arith, length-take found.size c.find.new.answer, c.in-Ok.ensures.result_bound) in
    let told = when_found o c.find.result found _ c.find.new.answer c.find.ensures.result_value c.in-Ok.is c.find.ensures.answer_after in
    let line = c.found_line.ensures in
    let fits : length (found_line found.measures bytes) ≤ 128 = omega (arith, found_short found.measures bytes short) in
    rw (found_is o found.measures bytes told) (record { value = line.value; upper_bound = rw line.value fits; out_after = line.out_after })
