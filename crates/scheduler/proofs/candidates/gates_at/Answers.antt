use mathlib.Core.Path.{◌≡◌, sym, ap, ◌∙◌}
use Prim.Native.Nat.{ℕ}
use native.Mathlib.Omega.{arith}
use borrow.Author.Rules.{rules}
use lib.ListN.{length, get_or, take, length-set}
use lib.Seq.{length-take-le, get_or-take, take_all}
use Rattle.scheduler.specs.candidates.Left.{chosen}
use Rattle.scheduler.proofs.candidates.Odometer.{length_chosen, chosen_at}
use Rattle.scheduler.proofs.candidates.Digits.{filled}
use Rattle.scheduler.proofs.candidates.gates_at.Goals as goal
use Rattle.scheduler.proofs.candidates.gates_at.Goals.{Start}

long : (s : Start) → length s.args.at.digits ≡ 12
long s = search rules

-- as many gates as digits
many : (s : Start) → length (chosen s.args.table.now (take s.args.at.len s.args.at.digits)) ≡ s.args.at.len
many s =
    let n = long s in
    length_chosen s.args.table.now (take s.args.at.len s.args.at.digits) ∙ length-take-le s.args.at.len s.args.at.digits (omega (arith, s.requires))

pub loop-i-preserved : goal.loop-i-preserved
loop-i-preserved c =
    let gates = c.args.table.now in
    let n = long (goal.at.loop-i-preserved c).Start in
    let few = c.requires in
    let m = many (goal.at.loop-i-preserved c).Start in (
      length-set c.loop-i.path c.loop-i.i c.at.result ∙ c.loop-i.invariant.0,
      filled (chosen gates (take c.args.at.len c.args.at.digits)) c.loop-i.path c.loop-i.i c.at.result (omega arith) (omega arith)
          (c.at.ensures ∙ ap (λ (d : ℕ). get_or gates d 0) c.from.ensures
          ∙ sym (chosen_at gates (take c.args.at.len c.args.at.digits) c.loop-i.i (omega (arith, length-take-le c.args.at.len c.args.at.digits (omega arith)))
          ∙ ap (λ (d : ℕ). get_or gates d 0) (get_or-take c.args.at.len c.args.at.digits c.loop-i.i 0 c.loop-i-test.true)))
          c.loop-i.invariant.1,
    )

pub returns : goal.returns
returns c =
    let h = c.loop-i-test.false in
    let q : c.loop-i.i ≡ c.args.at.len = omega arith in
    let m = many (goal.at.returns c).Start in
    rw q at c.loop-i.invariant.1 ∙ take_all c.args.at.len (chosen c.args.table.now (take c.args.at.len c.args.at.digits)) (omega arith)
