use mathlib.Core.Path.{◌≡◌}
use mathlib.Core.Bool.{Bool, true, false}
use Prim.Native.Nat.{ℕ, ◌≤◌}
use native.Mathlib.Omega.{arith}
use lib.Dec.{eqb}
use Rattle.logic.specs.Rules.{pick}
use Rattle.bloom.proofs.hash.Sums.{part_one, part_two_le}
use Rattle.bloom.proofs.insert.mark_pairs.Goals as goal

within : (s a t n : ℕ) → n ≡ pick (eqb a t) 0 (pick (eqb s 0) 0 a) → n ≤ a
within s a t n e = rw e (two (eqb a t) (eqb s 0))
  where
    two : (x y : Bool) → pick x 0 (pick y 0 a) ≤ a
    two true y = omega arith
    two false true = omega arith
    two false false = omega arith

pub overflow_sub-hash : goal.overflow_sub-hash
overflow_sub-hash c = omega (arith, c.requires, part_one c.args.shares c.loop-a.a 5 (omega arith) (omega arith))

pub mark_less-requires-clause-by_index : goal.mark_less-requires-clause-by_index
mark_less-requires-clause-by_index c =
    let n = within c.word_at-s.result c.loop-a.a c.args.but c.pairs.result c.pairs.ensures in
    let e = c.word_at-s.ensures.value in
    let h = c.requires in λ w l. omega (arith, part_two_le c.args.shares c.loop-a.a w (omega arith) (omega arith))
