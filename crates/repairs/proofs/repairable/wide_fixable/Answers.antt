use mathlib.Core.Path.{◌≡◌, ap, ◌∙◌}
use mathlib.Core.Bool.{true}
use mathlib.Core.List.{List}
use Prim.Native.Nat.{ℕ}
use borrow.Author.Rules.{rules}
use lib.Bits.{bit_or}
use lib.Dec.{eqb}
use lib.ListN.{length}
use Rattle.outputs.specs.Owed.{fixable}
use Rattle.outputs.specs.products.Products.{part}
use Rattle.repairs.proofs.matches.Joined.{wires_fixable, five_cells}
use Rattle.repairs.proofs.repairable.wide_fixable.Goals as goal

pub returns : goal.returns
returns c =
    let l : length c.args.columns ≡ 5 = search rules in
    ap (λ (x : ℕ). eqb (bit_or c.wide_hits.result (bit_or x (bit_or c.wide_hits-3.result (bit_or c.wide_hits-4.result c.wide_hits-5.result)))) 1)
    c.picked.ensures
    ∙ wires_fixable (part true) c.args.t _ c.args.n c.args.free c.requires _ _ _ _ _ c.wide_hits-5.ensures c.wide_hits-4.ensures c.wide_hits-3.ensures
    c.wide_hits-2.ensures c.wide_hits.ensures
    ∙ ap (λ (cs : List ℕ). fixable (part true) c.args.t cs c.args.n c.args.free) (five_cells c.args.columns l)
