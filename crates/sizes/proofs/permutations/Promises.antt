-- The table of sizes in a caller's words: no list of any length that makes a permutation is shorter than its cell, one is as long, and none is 255.
use mathlib.Core.Path.{◌≡◌, refl, sym, ap, ◌∙◌, subst}
use mathlib.Core.Bool.{Bool, true, false}
use mathlib.Core.Logic.{◌↔◌}
use mathlib.Core.List.{List, [], map}
use Prim.Native.Nat.{ℕ, ◌≤◌, ◌<◌}
use native.Mathlib.Nat.{zero-add}
use native.Mathlib.Omega.{arith}
use borrow.Author.Tests.{ltb-true, ltb-false, leb-true, leb-false}
use lib.Dec.{ltb, leb, eqb}
use lib.ListN.{length, get_or, length-map}
use Rattle.logic.specs.Lists.{all_of, Among}
use Rattle.logic.specs.Answers.{refused}
use Rattle.logic.proofs.Answers.{refused_is}
use Rattle.logic.proofs.Chain.{rule_never}
use Rattle.logic.proofs.Members.{numbers_at}
use Rattle.gate.specs.Gates.{lawful}
use Rattle.gate.proofs.Tables.{among_lawful}
use Rattle.circuit.specs.run.Run.{forwards, backwards}
use Rattle.circuit.proofs.run.Reversal.{stays, undone}
use Rattle.sizes.specs.permutations.Orders.{eight, permutations, Arranges, rank_of}
use Rattle.sizes.specs.permutations.Sizes.{twelve, Makes, made_by, size_of, sizes, cell_of}
use Rattle.sizes.specs.Filling.{fill_code, fill_of}
use Rattle.sizes.specs.permutations.Inner.{permutation_at}
use Rattle.sizes.proofs.permutations.Lists.{map_at}
use Rattle.sizes.proofs.permutations.Orders.{eight_distinct, permutations_many, permutes_at, rank_at, rank_lt, at_rank}
use Rattle.sizes.proofs.permutations.Masks.{map_arranges}
use Rattle.sizes.proofs.permutations.Least.{least_most, least_some, least_least}
use Rattle.sizes.proofs.permutations.Made.{made_is, made_has}
use Rattle.sizes.proofs.permutations.Exchanges.{reached}

-- the table of sizes has 40,320 cells
pub sizes_long : length sizes ≡ 40320
unfolding sizes
sizes_long = length-map permutations size_of ∙ permutations_many

module _ (v : List ℕ) (a : Arranges eight v) where
  cell_is : cell_of v ≡ size_of v
  unfolding sizes
  cell_is = map_at size_of permutations (rank_of v) [] 0 (subst (λ (n : ℕ). rank_of v < n) (sym permutations_many) (rank_lt v a)) ∙ ap size_of (at_rank v a)

  -- "over lists of any length"
  pub shortest : (l : List ℕ) → Among twelve l → Makes v l → cell_of v ≤ length l
  unfolding size_of
  shortest l w m = by_length (ltb (length l) 255) refl
    where
      by_length : (t : Bool) → ltb (length l) 255 ≡ t → cell_of v ≤ length l
      by_length true e =
          let k = least_least (made_by v) 255 (omega arith) (length l) (ltb-true (length l) 255 e) (made_has v l w m) in
          omega (arith, cell_is)
      by_length false e =
          let k = ltb-false (length l) 255 e in
          omega (arith, cell_is, least_most (made_by v) 255 (omega arith))

  -- "or 255 where there is no list": there always is one
  pub never_255 : cell_of v ≤ 72
  unfolding size_of
  never_255 =
      let r = reached v a in
      let h = r.1.0 in
      omega (arith, cell_is, least_least (made_by v) 255 (omega arith) r.0 (omega arith) r.1.1)

  -- "its least gate count"
  pub attained : (l : List ℕ) × (Among twelve l × (Makes v l × (length l ≡ cell_of v)))
  unfolding size_of
  attained =
      let s = least_some (made_by v) 255 (omega arith) (cell_of v) (let n = never_255 in omega arith) (sym cell_is) in
      let r = made_is v (cell_of v) s.1.0 in
      (r.0, (r.1.0, (r.1.1.1, r.1.1.0)))

  -- "exceeds": a cell is above k exactly where no list of at most k gates makes the permutation
  pub exceeds : (k : ℕ) → (k < cell_of v) ↔ ((l : List ℕ) → Among twelve l → length l ≤ k → Makes v l → ⊥)
  exceeds k = (above, none)
    where
      above : k < cell_of v → (l : List ℕ) → Among twelve l → length l ≤ k → Makes v l → ⊥
      above h l w n m = let s = shortest l w m in absurd (omega arith)

      none : ((l : List ℕ) → Among twelve l → length l ≤ k → Makes v l → ⊥) → k < cell_of v
      none h = by_size (leb (cell_of v) k) refl
        where
          by_size : (t : Bool) → leb (cell_of v) k ≡ t → k < cell_of v
          by_size true e =
              let r = attained in
              let q = leb-true (cell_of v) k e in
              absurd (h r.0 r.1.0 (let o = r.1.1.1 in omega arith) r.1.1.0)
          by_size false e = leb-false (cell_of v) k e

-- every cell is some permutation's
pub cell_at : (r : ℕ) → r < 40320 → Arranges eight (permutation_at r) × (cell_of (permutation_at r) ≡ get_or sizes r 0)
cell_at r h = (permutes_at r h, ap (λ (n : ℕ). get_or sizes n 0) (rank_at r h))

-- so 255 stands nowhere on the table of sizes
pub never_at : (r : ℕ) → r < 40320 → get_or sizes r 0 ≤ 72
never_at r h = let c = cell_at r h in subst (λ (n : ℕ). n ≤ 72) c.1 (never_255 (permutation_at r) c.0)

-- and every list makes some permutation
pub makes_one : (l : List ℕ) → Among twelve l → Arranges eight (map (forwards l) eight) × Makes (map (forwards l) eight) l
makes_one l w = (
  map_arranges (forwards l) eight (λ x h. stays 2 3 l x kept h)
      (λ x y h k e. sym (undone 2 3 l x (omega arith) kept h) ∙ ap (backwards l) e ∙ undone 2 3 l y (omega arith) kept k)
      (record { same_length = refl; once = eight_distinct; among = λ x m. m }),
  (λ x h. sym (map_at (forwards l) eight x 0 0 h ∙ ap (forwards l) (numbers_at 8 0 x 0 h ∙ zero-add x))),
)
  where
    kept : all_of (lawful 2 3) l ≡ true
    kept = among_lawful 2 3 l w

-- The call is never refused with 11.
pub fill_never : (cells : List ℕ) → fill_of cells ≡ refused 11 → ⊥
unfolding fill_of fill_code
fill_never cells h = rule_never 11 (eqb (length cells) 40320) 25 0 (λ e. omega arith) (λ e. omega arith) (refused_is (fill_code cells) tt 11 h)
