use mathlib.Core.Path.{◌≡◌, ap, sym, ◌∙◌}
use mathlib.Core.List.{[], ◌∷◌, ◌++◌}
use Prim.Native.Nat.{◌/◌}
use native.Mathlib.Omega.{arith}
use lib.ListN.{length, length-set, take}
use lib.Seq.{take_all}
use Rattle.std.proofs.lemmas.List.{take_more, take_more_set}
use Rattle.problem.specs.declared.Entry.{Entry}
use Rattle.library.specs.entries.Library.{entries_of}
use Rattle.library.proofs.entries.Entries.{length_entries, entry_is}
use Rattle.library.proofs.calls.stock.Goals as goal

pub loop-i-preserved : goal.loop-i-preserved
loop-i-preserved c =
    let lib = c.args.library.now in
    let none : Entry = record { gate = 0; price = 0; duration = 0 } in
    let v = c.loop-i.invariant in
    let within = c.loop-i-test.true in
    let same = c.entry_at.ensures ∙ sym (entry_is lib c.loop-i.i none within) in (
      length-set c.loop-i.all c.loop-i.i c.entry_at.result ∙ v.0,
      take_more_set c.loop-i.all c.loop-i.i c.entry_at.result (omega (arith, c.requires))
          ∙ (λ i. v.1 i ++ (same i ∷ []))
          ∙ sym (take_more (entries_of lib) c.loop-i.i none (omega (arith, length_entries lib))),
    )

pub returns : goal.returns
returns c =
    let lib = c.args.library.now in
    let count : c.loop-i.i ≡ length lib / 3 = let past = c.loop-i-test.false in omega arith in
    ap (λ n. take n c.loop-i.all) (sym count) ∙ c.loop-i.invariant.1 ∙ take_all c.loop-i.i (entries_of lib) (omega (arith, length_entries lib))
