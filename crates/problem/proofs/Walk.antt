-- The walk: what the recursion has to show where it stops, after each gate, and at its end.
use mathlib.Core.Path.{◌≡◌, refl, sym}
use mathlib.Core.List.{List, [], ◌∷◌, ◌++◌, append_assoc, Memᴰ}
use mathlib.Core.Option.{Option}
use Prim.Native.Nat.{ℕ, zero, suc, ◌+◌, ◌-◌, ◌<◌}
use native.Mathlib.Omega.{arith}
use lib.ListN.{length, get_or}
use lib.Seq.{take-length}
use Rattle.logic.proofs.Members.{among_cons}
use Rattle.problem.specs.order.Choices.{Choice, attempt, improve, under, below}
use Rattle.problem.proofs.order.First.{improve_append, improve_skip, left_later}
use Rattle.problem.proofs.order.Enumeration.{under_zero, under_suc, flat_map_is, turn, node}
use Rattle.problem.specs.Problems.{Problem, choice_of, here, within}
use Rattle.problem.specs.Inner.{looked_under, Enough}
use Rattle.problem.proofs.Listed.{listed}

module _ (P : Problem) (limit : ℕ) (l : List ℕ) (k : ℕ) where
  -- no gate can come: the list itself is all there is
  pub walk_stop : (most : ℕ) (held y : Option Choice) → Enough P limit l k most held → most ≡ 0 → y ≡ improve (within P limit) held (here P l)
      → y ≡ looked_under P limit l k held
  unfolding looked_under
  walk_stop most held y enough none_left e = by_count k refl
    where
      passed : 0 < k → (a : Choice) → Memᴰ a (below (here P) P.gates l (k - 1) (length P.gates)) → attempt (within P limit) y a ≡ y
      passed some_left a m =
          let f = flat_map_is (λ (g : ℕ). under (here P) P.gates (l ++ (g ∷ [])) (k - 1)) a P.gates (rw take-length at m) in
          let i = listed P (l ++ (f.0 ∷ [])) (k - 1) a f.1.1 in
          let short = i.short in
          let d : choice_of P (l ++ (f.0 ∷ i.more)) i.layout ≡ a = rw (← append_assoc l (f.0 ∷ []) i.more) i.same in
          rw (← d, e)
          (left_later (within P limit) held (choice_of P (l ++ (f.0 ∷ i.more)) i.layout) (here P l)
          (enough.beyond (f.0 ∷ i.more) i.layout (among_cons f.1.0 i.among) i.laid (omega arith) (omega arith)))

      by_count : (n : ℕ) → k ≡ n → y ≡ improve (within P limit) held (under (here P) P.gates l k)
      by_count zero r = rw (under_zero (here P) P.gates l k r) e
      by_count (suc n) r =
          rw (under_suc (here P) P.gates l k (omega arith), improve_append (within P limit) held (here P l), ← e)
          (sym (improve_skip (within P limit) y _ (passed (omega arith))))

  pub walk_end : (x x₀ y : Option Choice) → 0 < k → x₀ ≡ improve (within P limit) x (here P l)
      → y ≡ improve (within P limit) x₀ (below (here P) P.gates l (k - 1) (length P.gates))
      → y ≡ looked_under P limit l k x
  unfolding looked_under
  walk_end x x₀ y h e f = node (here P) P.gates l k (within P limit) x x₀ y h e f

  -- one gate of the table more
  pub walk_turn : (i : ℕ) (x₀ x y : Option Choice) → i < length P.gates
      → x ≡ improve (within P limit) x₀ (below (here P) P.gates l k i)
      → y ≡ looked_under P limit (l ++ (get_or P.gates i 0 ∷ [])) k x
      → y ≡ improve (within P limit) x₀ (below (here P) P.gates l k (i + 1))
  unfolding looked_under
  walk_turn i x₀ x y hi e f = turn (here P) P.gates l k i (within P limit) x₀ x y hi e f

-- the choices of the list alone are those below it with no gate to come
pub alone : (P : Problem) (limit : ℕ) (l : List ℕ) (x : Option Choice) → looked_under P limit l 0 x ≡ improve (within P limit) x (here P l)
unfolding looked_under
alone P limit l x = rw (under_zero (here P) P.gates l 0 refl)
