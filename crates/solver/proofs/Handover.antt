-- One search after the other, with one filter or another: what each leaves to the next.
use mathlib.Core.Path.{◌≡◌, sym, subst}
use Prim.Native.Nat.{ℕ, ◌+◌, ◌-◌, ◌≤◌}
use native.Mathlib.Omega.{arith}
use Rattle.std.specs.Prelude.{Option, Some, None}
use Rattle.problem.specs.declared.order.Best.{Best}
use Rattle.problem.specs.order.View.{view}
use Rattle.problem.specs.Problems.{Problem, first_good}
use Rattle.problem.specs.Inner.{Past}
use Rattle.problem.proofs.Limits.{never}
use Rattle.solver.specs.States.{Settled}

module _ (P : Problem) where
  -- the count that a search goes on from
  pub past_from : (limit from : ℕ) → 1 ≤ from → Past P limit (from - 1 + 1) → Past P limit from
  past_from limit from h p = let e : from - 1 + 1 ≡ from = omega arith in subst (Past P limit) e p

  -- once all counts were searched, what was found is the answer
  pub settled_all : (r : Option Best) → Settled P P.most_gates r → view r ≡ first_good P
  unfolding view
  settled_all None past = sym (never P past)
  settled_all (Some b) first = first

  -- the same, where the last count is told by another name
  pub settled_at : (most : ℕ) → most ≡ P.most_gates → (r : Option Best) → Settled P most r → view r ≡ first_good P
  settled_at most e r s = settled_all r (subst (λ (l : ℕ). Settled P l r) e s)
