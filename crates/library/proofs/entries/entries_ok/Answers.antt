use mathlib.Core.Path.{◌≡◌, sym, ap, ◌∙◌}
use Prim.Native.Nat.{ℕ, suc, ◌+◌}
use native.Mathlib.Omega.{arith}
use lib.ListN.{drop}
use Rattle.problem.specs.declared.Entry.{Entry}
use Rattle.library.specs.entries.Library.{entries_of, entry_ok, entries_ok}
use Rattle.library.specs.entries.Inner.{entry_at}
use Rattle.library.proofs.entries.Entries.{sound_turn, sound_done}
use Rattle.library.proofs.entries.entries_ok.Goals as goal

pub returns-then-not-entry_ok : goal.returns-then-not-entry_ok
returns-then-not-entry_ok c =
    let e = ap (entry_ok c.args.k c.args.w c.loop-i.least) c.entry_at-e.ensures in
    let ok = sym (c.entry_ok.ensures ∙ e) ∙ c.if-not-entry_ok.true in
    sym (sound_turn c.args.library.now c.loop-i.i c.args.k c.args.w c.loop-i.least _ (omega arith) ok) ∙ c.loop-i.invariant

pub loop-i-preserved : goal.loop-i-preserved
loop-i-preserved c =
    let e = ap (entry_ok c.args.k c.args.w c.loop-i.least) c.entry_at-e.ensures in
    let ok = sym (c.entry_ok.ensures ∙ e) ∙ c.if-not-entry_ok.false in
    let g = ap (λ (x : Entry). x.gate) c.entry_at-e.ensures in
    let above : c.from-least.result + 1 ≡ suc (entry_at c.args.library.now c.loop-i.i).gate = omega (arith, c.from-least.ensures, g) in
    ap (λ (n : ℕ). entries_ok c.args.k c.args.w n (drop (c.loop-i.i + 1) (entries_of c.args.library.now))) above
    ∙ sym (sound_turn c.args.library.now c.loop-i.i c.args.k c.args.w c.loop-i.least _ (omega arith) ok) ∙ c.loop-i.invariant

pub returns : goal.returns
returns c = sym (sound_done c.args.library.now c.loop-i.i c.args.k c.args.w c.loop-i.least (omega arith)) ∙ c.loop-i.invariant
