-- A rule broken, or what both searches find.
use mathlib.Core.Path.{◌≡◌, sym, ap, ◌∙◌}
use Prim.Native.Nat.{◌≤◌}
use native.Mathlib.Omega.{arith}
use lib.ListN.{length}
use Rattle.record.specs.Answers.{number, code_of}
use Rattle.record.proofs.Refusals.{number_pos}
use Rattle.reports.specs.refusal.Report.{refused_text}
use Rattle.reports.proofs.refusal.Short.{refused_short}
use Rattle.sensitivity.specs.alike.Alike.{compare_code}
use Rattle.printed.proofs.differences.Told.{when_broken, when_kept}
use Rattle.commands.proofs.compare.compare_text.Goals as goal

pub returns-in-Err : goal.returns-in-Err
returns-in-Err c =
    let n : number c.in-Err.e ≡ compare_code c.args.old.now c.args.new.now = sym (ap code_of c.in-Err.is) ∙ c.check_compare.ensures in
    let broken = when_broken c.args.old.now c.args.new.now (number c.in-Err.e) n (λ z. omega (arith, number_pos c.in-Err.e)) in
    let text = c.refused_text.ensures in
    let fits : length (refused_text c.from.result) ≤ 256 = omega (arith, refused_short c.from.result) in
    rw (broken, ← c.from.ensures) (record { value = text.value; upper_bound = rw text.value fits; out_after = text.out_after })

pub returns-in-Ok : goal.returns-in-Ok
returns-in-Ok c =
    let z : compare_code c.args.old.now c.args.new.now ≡ 0 = sym c.check_compare.ensures ∙ ap code_of c.in-Ok.is in
    rw (when_kept c.args.old.now c.args.new.now z) c.put_searched.ensures
