-- The word of the gate's target, picked out of the five.
use mathlib.Core.Path.{◌≡◌, sym, ap, ◌∙◌, subst}
use Prim.Native.Nat.{ℕ, ◌/◌, ◌%◌, ◌^◌, ◌<◌}
use lib.Bits.{bit_or}
use lib.Dec.{eqb}
use lib.ListN.{get_or}
use Rattle.logic.specs.Rules.{pick}
use Rattle.gate.specs.Gates.{target_of}
use Rattle.normal_forms.specs.masks.Words.{marked}
use Rattle.normal_forms.proofs.masks.Told.{chosen}
use Rattle.normal_forms.proofs.marks.marked.Goals as goal

pub returns : goal.returns
unfolding marked
returns c =
    let f : ℕ → ℕ = λ u. bit_or (get_or c.args.marks.sleep u 0) (get_or c.args.marks.cancel u 0) in
    let t = c.from-t.result / 32 in
    let e : t ≡ target_of c.args.g = ap (λ (x : ℕ). x / 32) c.from-t.ensures in
    ap (λ (x : ℕ). eqb (x / 2 ^ (c.args.g % 32) % 2) 1)
    (c.picked-word.ensures
    ∙ ap (pick (eqb t 0) (f 0))
    (c.picked.ensures ∙ ap (pick (eqb t 1) (f 1)) (c.picked-later.ensures ∙ ap (pick (eqb t 2) (f 2)) c.picked-last.ensures))
    ∙ chosen f t (subst (λ (x : ℕ). x < 5) (sym e) c.requires)
    ∙ ap f e)
