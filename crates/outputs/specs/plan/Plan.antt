-- The plan of a node: what its state says of the next gates on each target, packed into the digits of two words.
use Rattle.std.specs.Prelude.{List, ℕ, ◌+◌, ◌*◌, ltb}
use Rattle.logic.specs.Rules.{both, bit}
use Rattle.columns.specs.declared.Wanted.{Wanted}
use Rattle.outputs.specs.Owed.{alone, due, lost}
use Rattle.outputs.specs.declared.plan.Plan.{Plan}

-- five digits in base 16, the lowest first
abbrev pub digits : (ℕ → ℕ) → ℕ
digits f = f 0 + 16 * (f 1 + 16 * (f 2 + 16 * (f 3 + 16 * f 4)))

-- 1 if there is an output j and it is alone for `wire`
abbrev pub alone_bit : Wanted → List ℕ → ℕ → ℕ → ℕ → ℕ → ℕ
alone_bit t cs n free wire j = bit (both (ltb j n) (alone t cs n free wire j))

-- the outputs that are alone for `wire`, a bit each
unfoldable pub set_of : Wanted → List ℕ → ℕ → ℕ → ℕ → ℕ
set_of t cs n free wire =
    alone_bit t cs n free wire 0 + 2 * alone_bit t cs n free wire 1 + 4 * alone_bit t cs n free wire 2 + 8 * alone_bit t cs n free wire 3

-- digit w of `sizes` is how many gates are due for target w, digit w of `sets` the outputs that are alone for it
unfoldable pub plan_of : Wanted → List ℕ → ℕ → ℕ → Plan
plan_of t cs n free =
    record { sets = digits (set_of t cs n free); sizes = digits (due t cs n free); lost = lost t cs n free }
