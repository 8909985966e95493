-- The walk over the pruned list: what the recursion has to show where it stops, after each gate, and at its end. Where the full list below
-- a gate changes nothing, neither does a part of it; so every bound carries over.
use mathlib.Core.Path.{◌≡◌, refl, sym, ap}
use mathlib.Core.Bool.{Bool, true, false}
use mathlib.Core.List.{List, [], ◌∷◌, ◌++◌}
use mathlib.Core.Option.{Option, none}
use Prim.Native.Nat.{ℕ, zero, suc, ◌+◌, ◌-◌, ◌<◌}
use native.Mathlib.Omega.{arith}
use lib.ListN.{length, get_or, take}
use Rattle.problem.specs.order.Choices.{Choice, improve, under, below}
use Rattle.problem.proofs.order.First.{improve_append, improve_skip, left_each}
use Rattle.problem.proofs.order.Enumeration.{under_suc, flat_map_is, flat_map_has}
use Rattle.problem.specs.Problems.{Problem, here, within}
use Rattle.problem.specs.Inner.{looked_under, Enough}
use Rattle.problem.proofs.Walk as full
use Rattle.problem.specs.pruned.Pruned.{pruned, branch, branches, Beaten, tried_under, tried_by}
use Rattle.problem.proofs.pruned.Listing.{branches_more, pruned_zero, pruned_suc, pruned_under, branch_none, branch_all, branch_under}
use Rattle.problem.proofs.pruned.Root.{root}

module _ (skip : List ℕ → ℕ → Bool) (P : Problem) (limit : ℕ) (l : List ℕ) (k : ℕ) where
  -- what everything below the list leaves, its part leaves
  pub spared : (x : Option Choice) → looked_under P limit l k x ≡ x → tried_under skip P limit l k x ≡ x
  unfolding looked_under tried_under
  spared x e =
      improve_skip (within P limit) x (pruned skip (here P) P.gates l k)
      (λ a m. left_each (within P limit) x (under (here P) P.gates l k) e a (pruned_under skip (here P) P.gates l k a m))

  -- one gate: it is skipped, or nothing below it counts, or it is entered
  module _ (g : ℕ) (x : Option Choice) where
    pub by_skip : skip l g ≡ true → x ≡ tried_by skip P limit l k g x
    unfolding tried_by improve
    by_skip h = sym (ap (improve (within P limit) x) (branch_none skip (here P) P.gates l k g h))

    pub by_bound : looked_under P limit (l ++ (g ∷ [])) k x ≡ x → x ≡ tried_by skip P limit l k g x
    unfolding looked_under tried_by
    by_bound e =
        sym (improve_skip (within P limit) x (branch skip (here P) P.gates l k g)
        (λ a m. left_each (within P limit) x (under (here P) P.gates (l ++ (g ∷ [])) k) e a (branch_under skip (here P) P.gates l k g a m)))

    pub by_entering : skip l g ≡ false → tried_under skip P limit (l ++ (g ∷ [])) k x ≡ tried_by skip P limit l k g x
    unfolding tried_under tried_by
    by_entering h = sym (ap (improve (within P limit) x) (branch_all skip (here P) P.gates l k g h))

  -- no gate can come: the list itself is all there is
  pub walk_stop : (most : ℕ) (held y : Option Choice) → Enough P limit l k most held → most ≡ 0 → y ≡ improve (within P limit) held (here P l)
      → y ≡ tried_under skip P limit l k held
  unfolding looked_under tried_under
  walk_stop most held y enough none_left e = by_count k refl (full.walk_stop P limit l k most held y enough none_left e)
    where
      rest_left : 0 < k → improve (within P limit) y (below (here P) P.gates l (k - 1) (length P.gates)) ≡ y
          → improve (within P limit) y (branches skip (here P) P.gates l (k - 1) (length P.gates)) ≡ y
      rest_left some_left f =
          improve_skip (within P limit) y (branches skip (here P) P.gates l (k - 1) (length P.gates))
          (λ a m.
          let r = flat_map_is (branch skip (here P) P.gates l (k - 1)) a (take (length P.gates) P.gates) m in
          left_each (within P limit) y (below (here P) P.gates l (k - 1) (length P.gates)) f a
          (flat_map_has (λ (g : ℕ). under (here P) P.gates (l ++ (g ∷ [])) (k - 1)) r.1.0
          (branch_under skip (here P) P.gates l (k - 1) r.0 a r.1.1)))

      by_count : (n : ℕ) → k ≡ n → y ≡ improve (within P limit) held (under (here P) P.gates l k)
          → y ≡ improve (within P limit) held (pruned skip (here P) P.gates l k)
      by_count zero r f = rw (pruned_zero skip (here P) P.gates l k r) e
      by_count (suc n) r f =
          let full-left = rw (under_suc (here P) P.gates l k (omega arith), improve_append (within P limit) held (here P l), ← e) at f in
          rw (pruned_suc skip (here P) P.gates l k (omega arith), improve_append (within P limit) held (here P l), ← e)
          (sym (rest_left (omega arith) (sym full-left)))

  pub walk_end : (x x₀ y : Option Choice) → 0 < k → x₀ ≡ improve (within P limit) x (here P l)
      → y ≡ improve (within P limit) x₀ (branches skip (here P) P.gates l (k - 1) (length P.gates))
      → y ≡ tried_under skip P limit l k x
  unfolding tried_under
  walk_end x x₀ y h e f = rw (pruned_suc skip (here P) P.gates l k h, improve_append, ← e) f

  -- one gate of the table more
  pub walk_turn : (i : ℕ) (x₀ x y : Option Choice) → i < length P.gates
      → x ≡ improve (within P limit) x₀ (branches skip (here P) P.gates l k i)
      → y ≡ tried_by skip P limit l k (get_or P.gates i 0) x
      → y ≡ improve (within P limit) x₀ (branches skip (here P) P.gates l k (i + 1))
  unfolding tried_by
  walk_turn i x₀ x y h e f = rw (branches_more skip (here P) P.gates l k i h, improve_append, ← e) f

-- from nothing held, skipping what is beaten loses nothing
pub whole : (skip : List ℕ → ℕ → Bool) (P : Problem) (limit k : ℕ) → Beaten skip (here P) P.gates k (within P limit)
    → tried_under skip P limit [] k none ≡ looked_under P limit [] k none
unfolding looked_under tried_under
whole skip P limit k beaten = root skip (here P) P.gates k (within P limit) beaten
