-- The place asked for is that of every list of so many gates that comes to the limit; where it is not marked there is none.
use mathlib.Core.Path.{◌≡◌, sym, ◌∙◌}
use mathlib.Core.Bool.{Bool, false}
use Prim.Native.Nat.{ℕ, ◌+◌, ◌≤◌}
use borrow.Author.Tests.{eqb-true, ltb-false}
use lib.Dec.{ltb}
use Rattle.logic.specs.Rules.{either}
use Rattle.logic.proofs.Chain.{either_neither}
use Rattle.walk.proofs.node.Exactly.{no_sum}
use Rattle.walk.proofs.offer.impossible.Goals as goal
use Rattle.walk.proofs.offer.impossible.Goals.{Else-either}

-- what the code's test shows where it fails
bounds : (limit paid : ℕ) (t : Bool) → t ≡ either (ltb limit paid) (ltb (paid + 3060) limit) → t ≡ false → (paid ≤ limit) × (limit ≤ paid + 3060)
bounds limit paid t e f =
    let n = either_neither (ltb limit paid) (ltb (paid + 3060) limit) (sym e ∙ f) in
    (ltb-false limit paid n.0, ltb-false (paid + 3060) limit n.1)

-- the rest of the limit is that of at most twelve gates
rest : (c : Else-either) → (c.args.paid ≤ c.args.limit) × (c.args.limit ≤ c.args.paid + 3060)
rest c = bounds c.args.limit c.args.paid _ c.either.ensures c.if-either.false

pub returns-then-i-sums : goal.returns-then-i-sums
returns-then-i-sums c =
    λ t P l paid exact.
    no_sum P c.args.limit l c.args.count c.args.sums.now exact c.args.paid paid (rest (goal.at.returns-then-i-sums c).Else-either).0 c.if-i-sums.true (eqb-true _ _ t)
