use mathlib.Core.Path.{sym, ap, ◌∙◌}
use native.Mathlib.Omega.{arith}
use borrow.Author.Tests.{eq-eqb, ne_eqb}
use Rattle.problem.specs.declared.Entry.{Entry}
use Rattle.library.specs.entries.Inner.{entry_at}
use Rattle.library.proofs.entries.Entries.{find_turn, find_done}
use Rattle.library.proofs.entry_measures.entry_for.Goals as goal

pub returns-then-e-b : goal.returns-then-e-b
returns-then-e-b c =
    let g = ap (λ (x : Entry). x.gate) c.entry_at-e.ensures in
    let here = eq-eqb (entry_at c.args.library.now c.loop-i.i).gate c.args.b (sym g ∙ c.if-e-b.true) in
    c.entry_at-e.ensures ∙ sym (find_turn c.args.library.now c.loop-i.i c.args.b _ (omega arith) here) ∙ c.loop-i.invariant

pub loop-i-preserved : goal.loop-i-preserved
loop-i-preserved c =
    let g = ap (λ (x : Entry). x.gate) c.entry_at-e.ensures in
    let not-here = ne_eqb (entry_at c.args.library.now c.loop-i.i).gate c.args.b (λ e. c.if-e-b.false (g ∙ e)) in
    sym (find_turn c.args.library.now c.loop-i.i c.args.b _ (omega arith) not-here) ∙ c.loop-i.invariant

pub returns : goal.returns
returns c = sym (find_done c.args.library.now c.loop-i.i c.args.b (omega arith)) ∙ c.loop-i.invariant
