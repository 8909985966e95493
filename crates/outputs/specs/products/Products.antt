-- The products of columns that gates add, listed by their control masks, and the product table that all tests of a node read.
use Rattle.std.specs.Prelude.{Bool, List, map, ◌++◌, ℕ, eqb, leb, get_or}
use Rattle.std.specs.Int.Count.{ones}
use Rattle.logic.specs.Rules.{pick}
use Rattle.logic.specs.Lists.{keep_only, numbers_from}
use Rattle.columns.specs.declared.Wanted.{Wanted}
use Rattle.outputs.specs.Owed.{product}

-- the product of a mask of at most k wires; 0 for one of more
abbrev pub product_up_to : ℕ → List ℕ → ℕ → ℕ
product_up_to k cs m = pick (leb (ones m) k) (product cs m) 0

-- the products are tested in two parts of 16, each in the order of the masks: those of at most two wires and, only if gates may have three
-- controls, the wide ones. A gate of c controls belongs to the part
abbrev pub part : Bool → ℕ → Bool
part wide c = pick wide (eqb c 3) (leb c 2)

-- the masks of a part
abbrev pub masks_of : Bool → List ℕ
masks_of wide = keep_only (λ m. pick wide (leb 3 (ones m)) (leb (ones m) 2)) (numbers_from 0 32)

-- the products of a part
unfoldable pub products_of : ℕ → Bool → List ℕ → List ℕ
products_of k wide cs = map (product_up_to k cs) (masks_of wide)

-- the first four numbers of a list
abbrev pub four : List ℕ → List ℕ
four xs = map (λ j. get_or xs j 0) (numbers_from 0 4)

-- the product table: the product of each mask of at most k wires, with the mask as index, then the wanted values and the care columns
unfoldable pub table_of : ℕ → Wanted → List ℕ → List ℕ
table_of k t cs = map (product_up_to k cs) (numbers_from 0 32) ++ (four t.value ++ four t.care)
