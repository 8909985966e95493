use mathlib.Core.Path.{◌≡◌}
use mathlib.Core.Logic.{⊎_elim}
use lib.Count.{ones, ones_in}
use Rattle.outputs.specs.products.Products.{products_of}
use Rattle.outputs.proofs.product_table.wider.Goals as goal

pub returns-else-controls-eq3 : goal.returns-else-controls-eq3
unfolding products_of ones ones_in
returns-else-controls-eq3 c = ⊎_elim (λ (e : c.args.controls ≡ 2). rw e) (λ (e : c.args.controls ≡ 3). absurd (c.if-controls-eq3.false e)) c.requires
