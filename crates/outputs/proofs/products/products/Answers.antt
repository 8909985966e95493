use mathlib.Core.Path.{refl}
use lib.Count.{ones, ones_in, count_trailing_zeros, count_leading_zeros}
use Rattle.outputs.specs.products.Products.{products_of}
use Rattle.outputs.proofs.products.products.Goals as goal

pub returns : goal.returns
unfolding products_of ones ones_in count_trailing_zeros count_leading_zeros
returns c = refl
