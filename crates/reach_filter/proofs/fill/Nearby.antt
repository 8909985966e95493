-- States within some gates of others: what is said of all of them, one gate further, and back along a list.
use mathlib.Core.Path.{◌≡◌, subst}
use mathlib.Core.List.{List, [], ◌∷◌, Memᴰ}
use Prim.Native.Nat.{ℕ, zero, suc, ◌+◌, ◌-◌, ◌≤◌, ◌<◌}
use native.Mathlib.Omega.{arith}
use lib.ListN.{length, get_or}
use Rattle.logic.specs.Lists.{back, Among}
use Rattle.logic.proofs.Members.{place_of, among_head, among_tail}
use Rattle.gate.specs.Gates.{gate_of}
use Rattle.gate.specs.Inner.{column_step}
use Rattle.circuit.specs.run.Inner.{columns_over}
use Rattle.reach_filter.specs.fill.Sieve.{Near}

module _ (P : List ℕ → Type 0) (gates : List ℕ) where
  pub near_none : (cs : List ℕ) (k : ℕ) → k ≡ 0 → P cs → Near P gates cs k
  unfolding Near
  near_none cs zero e p = p
  near_none cs (suc k) e p = absurd (omega arith)

  pub near_more : (cs : List ℕ) (k : ℕ) → 1 ≤ k → P cs → ((i : ℕ) → i < length gates → Near P gates (column_step (gate_of (get_or gates i 0)) cs) (k - 1)) → Near P gates cs k
  unfolding Near
  near_more cs zero h p n = absurd (omega arith)
  near_more cs (suc k) h p n = let e : suc k - 1 ≡ k = omega arith in (p, λ i l. subst (Near P gates (column_step (gate_of (get_or gates i 0)) cs)) e (n i l))

  pub near_here : (cs : List ℕ) (k : ℕ) → Near P gates cs k → P cs
  unfolding Near
  near_here cs zero n = n
  near_here cs (suc k) n = n.0

  near_step : (cs : List ℕ) (k g : ℕ) → Memᴰ g gates → Near P gates cs (suc k) → Near P gates (column_step (gate_of g) cs) k
  unfolding Near
  near_step cs k g m n =
      let w = place_of g gates m in
      subst (λ (b : ℕ). Near P gates (column_step (gate_of b) cs) k) w.1.1 (n.1 w.0 w.1.0)

  near_back : (e cs : List ℕ) (j : ℕ) → Among gates e → Near P gates cs (length e + j) → Near P gates (back columns_over e cs) j
  unfolding back
  near_back [] cs j among n = subst (Near P gates cs) (omega arith) n
  near_back (g ∷ e) cs j among n =
      near_step (back columns_over e cs) j g (among_head among)
      (near_back e cs (suc j) (among_tail among) (subst (Near P gates cs) (omega arith) n))

  -- the state that a list of at most k gates leads from is one of them
  pub near_start : (e cs : List ℕ) (k : ℕ) → Among gates e → length e ≤ k → Near P gates cs k → P (back columns_over e cs)
  near_start e cs k among h n =
      near_here (back columns_over e cs) (k - length e) (near_back e cs (k - length e) among (subst (Near P gates cs) (omega arith) n))

pub near_map : (P Q : List ℕ → Type 0) (gates : List ℕ) → ((cs : List ℕ) → P cs → Q cs) → (cs : List ℕ) (k : ℕ) → Near P gates cs k → Near Q gates cs k
unfolding Near
near_map P Q gates f cs zero n = f cs n
near_map P Q gates f cs (suc k) n = (f cs n.0, λ i l. near_map P Q gates f (column_step (gate_of (get_or gates i 0)) cs) k (n.1 i l))
