-- The span bound: how many outputs are independent of what gates of at most one control can make, which is every XOR of the wires' columns
-- and the column of ones. Each takes a vector more, which only a heavy gate adds. A vector is a column on the rows that want every output.
use Rattle.std.specs.Prelude.{List, [], ◌∷◌, ◌++◌, ℕ, suc, min, eqb, ltb}
use Rattle.std.specs.Int.Bits.{bit_and, bit_xor}
use Rattle.logic.specs.Rules.{pick}
use Rattle.logic.specs.Lists.{along, total}
use Rattle.columns.specs.declared.Wanted.{Wanted}

-- x with b XORed in if that makes it less, which is so if x has a 1 where the highest 1 of b is
unfoldable pub clear : ℕ → ℕ → ℕ
clear b x = min x (bit_xor x b)

-- what is left of x when the vectors of a basis are cleared from it, in their order
abbrev pub reduced : List ℕ → ℕ → ℕ
reduced basis x = along clear basis x

-- what is left of each column, on the rows, when the basis and what is left of the columns before it are cleared from it; the basis with
-- these vectors spans the columns
unfoldable pub rests : ℕ → List ℕ → List ℕ → List ℕ
rests rows [] basis = []
rests rows (c ∷ cs) basis = reduced basis (bit_and rows c) ∷ rests rows cs (basis ++ (reduced basis (bit_and rows c) ∷ []))

-- 1 if something is left of a vector, else 0
unfoldable pub one : ℕ → ℕ
one y = pick (eqb y 0) 0 1

-- how many of the columns are independent modulo the basis
unfoldable pub fresh : ℕ → List ℕ → List ℕ → ℕ
fresh rows columns basis = total one (rests rows columns basis)

-- the columns of the outputs from j on, with d in place of those that are not among the first n outputs
unfoldable pub first : ℕ → ℕ → ℕ → List ℕ → List ℕ
first j n d [] = []
first j n d (c ∷ cs) = pick (ltb j n) c d ∷ first (suc j) n d cs

-- the rows that want each of the first n outputs
unfoldable pub full_rows : Wanted → ℕ → ℕ
full_rows t n = along bit_and (first 0 n 65535 t.care) 65535

-- what gates of at most one control XOR together: the wires' columns and the column of ones
abbrev pub generators : List ℕ → List ℕ
generators cs = 65535 ∷ cs

-- how many of the first n outputs are independent modulo the columns: at least so many heavy gates are still needed
unfoldable pub needed : Wanted → List ℕ → ℕ → ℕ
needed t cs n = fresh (full_rows t n) (first 0 n 0 t.value) (rests (full_rows t n) (generators cs) [])
