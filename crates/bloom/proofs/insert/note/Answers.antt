use mathlib.Core.Path.{◌≡◌, subst}
use mathlib.Core.Bool.{true}
use mathlib.Core.List.{List}
use Prim.Native.Nat.{ℕ}
use native.Mathlib.Omega.{arith}
use Rattle.bloom.specs.hash.Reach.{held}
use Rattle.bloom.specs.bits.Places.{key_of, lit_at}
use Rattle.bloom.proofs.hash.Sums.{part_one, every_part}
use Rattle.bloom.proofs.insert.note.Goals as goal

pub mark_less-requires-clause-by_index : goal.mark_less-requires-clause-by_index
mark_less-requires-clause-by_index c = let e = c.whole-hash.ensures in λ w l. omega (arith, part_one c.shares-parts.result w 5 l (omega arith))

pub returns-clause-seen_but : goal.returns-clause-seen_but
returns-clause-seen_but c =
    λ x y nx ny. subst (λ (ss : List ℕ). held c.mark_pairs.new.bits c.args.reach.size ss x y ≡ true) c.shares-parts.ensures
    (every_part c.shares-parts.result c.args.but (λ (h : ℕ). lit_at c.mark_pairs.new.bits (key_of c.args.reach.size h) ≡ true)
    (rw c.whole-hash.ensures at (c.mark_pairs.ensures.grown _ (c.mark_less.ensures.grown _ c.mark.ensures.hash_after)))
    (λ v l n. rw c.whole-hash.ensures at (c.mark_pairs.ensures.grown _ (c.mark_less.ensures.by_index_2 v l n)))
    (rw c.whole-hash.ensures at c.mark_pairs.ensures.by_index) x y nx ny)
