-- The products, values and cares, each at its place of the table.
use mathlib.Core.Path.{ap₂, ◌∙◌}
use mathlib.Core.List.{List}
use Prim.Native.Nat.{ℕ}
use Rattle.outputs.proofs.products.Tables.{at_masks, at_masks_law}
use Rattle.outputs.proofs.product_table.table_of.Goals as goal

pub returns : goal.returns
returns c =
    ap₂ (λ (ps qs : List ℕ). at_masks ps qs c.args.t.value c.args.t.care) c.products-ps.ensures c.wider-qs.ensures
    ∙ at_masks_law c.args.controls c.requires c.args.t c.args.columns
