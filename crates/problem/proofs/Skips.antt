-- Why nothing below a list can change the incumbent: by the cost, the gates and the depth of the list itself, or since it cannot be
-- finished with the gates that may still come.
use mathlib.Core.Path.{◌≡◌, refl, sym, ap, ◌∙◌}
use mathlib.Core.Bool.{Bool, true, false}
use mathlib.Core.List.{List, [], ◌∷◌, ◌++◌, append_assoc, Memᴰ}
use mathlib.Core.Option.{Option, some}
use Prim.Native.Nat.{ℕ, suc, ◌-◌, ◌≤◌, ◌<◌}
use native.Mathlib.Omega.{arith}
use borrow.Author.Tests.{leb-true, leb-false}
use lib.Dec.{leb}
use lib.ListN.{length}
use Rattle.logic.specs.Lists.{Among}
use Rattle.logic.proofs.Members.{among_cons}
use Rattle.circuit.specs.Measure.{cost, depth}
use Rattle.circuit.proofs.Prefix.{gates_front, cost_front, depth_front}
use Rattle.problem.specs.order.Choices.{Choice, attempt, improve, under}
use Rattle.problem.proofs.order.First.{attempt_not, improve_skip, left_later}
use Rattle.problem.proofs.order.Left.{dearer_left, longer_left}
use Rattle.problem.specs.Problems.{Problem, choice_of, here, within}
use Rattle.problem.specs.Inner.{looked_under, Enough}
use Rattle.problem.proofs.Listed.{listed, dear, deep, unrealized}

module _ (P : Problem) (limit : ℕ) (l : List ℕ) (k : ℕ) where
  -- every way in which the list goes on leaves what is held
  pub skip_all : (x : Option Choice)
      → ((e : List ℕ) (p : ℕ) → Among P.gates e → Memᴰ p P.layouts → length e ≤ k → attempt (within P limit) x (choice_of P (l ++ e) p) ≡ x)
      → looked_under P limit l k x ≡ x
  unfolding looked_under
  skip_all x f =
      improve_skip (within P limit) x (under (here P) P.gates l k)
      (λ a m. let i = listed P l k a m in ap (attempt (within P limit) x) (sym i.same) ∙ f i.more i.layout i.among i.laid i.short)

  -- the cost never falls, so a list above the limit stays above it
  pub cut_limit : (x : Option Choice) → limit < cost P.price l → looked_under P limit l k x ≡ x
  unfolding choice_of
  cut_limit x h =
      skip_all x (λ e p a m short.
      attempt_not (within P limit) x (choice_of P (l ++ e) p) (dear P limit (choice_of P (l ++ e) p) (omega (arith, cost_front P.price P.duration l e))))

  -- no ready time falls, so neither does the depth
  pub cut_depth : (x : Option Choice) → P.most_depth < depth P.duration l → looked_under P limit l k x ≡ x
  unfolding choice_of
  cut_depth x h =
      skip_all x (λ e p a m short.
      attempt_not (within P limit) x (choice_of P (l ++ e) p) (deep P limit (choice_of P (l ++ e) p) (omega (arith, depth_front P.price P.duration l e))))

  module _ (d : Choice) where
    -- a list that costs more than the best never comes before it
    pub cut_cost : d.cost < cost P.price l → looked_under P limit l k (some d) ≡ some d
    unfolding choice_of
    cut_cost h =
        skip_all (some d) (λ e p a m short.
        dearer_left (within P limit) (choice_of P (l ++ e) p) d (omega (arith, cost_front P.price P.duration l e)))

    -- nor does one that costs as much and is longer; one of equal length may still win by depth, layout or bytes
    pub cut_gates : d.cost ≡ cost P.price l → d.gates < length l → looked_under P limit l k (some d) ≡ some d
    unfolding choice_of
    cut_gates h g =
        skip_all (some d) (λ e p a m short.
        longer_left (within P limit) (choice_of P (l ++ e) p) d (omega (arith, cost_front P.price P.duration l e))
        (omega (arith, gates_front P.price P.duration l e)))

-- what cannot be finished within the gates that can still come leaves what is held
module _ (P : Problem) (limit : ℕ) (l : List ℕ) (remaining most : ℕ) (held : Option Choice) (enough : Enough P limit l remaining most held) where
  unfinished : (e : List ℕ) (p : ℕ) → Among P.gates e → Memᴰ p P.layouts → length e ≤ remaining
      → (length e ≤ most → P.realized p (l ++ e) ≡ true → ⊥)
      → attempt (within P limit) held (choice_of P (l ++ e) p) ≡ held
  unfolding choice_of
  unfinished e p among m short f = by_length (leb (length e) most) refl
    where
      by_table : length e ≤ most → (t : Bool) → P.realized p (l ++ e) ≡ t → attempt (within P limit) held (choice_of P (l ++ e) p) ≡ held
      by_table h true q = absurd (f h q)
      by_table h false q = attempt_not (within P limit) held (choice_of P (l ++ e) p) (unrealized P limit (choice_of P (l ++ e) p) q)

      by_length : (t : Bool) → leb (length e) most ≡ t → attempt (within P limit) held (choice_of P (l ++ e) p) ≡ held
      by_length true q = by_table (leb-true (length e) most q) (P.realized p (l ++ e)) refl
      by_length false q = enough.beyond e p among m short (leb-false (length e) most q)

  pub skip_far : ((e : List ℕ) (p : ℕ) → Among P.gates e → Memᴰ p P.layouts → length e ≤ most → P.realized p (l ++ e) ≡ true → ⊥)
      → looked_under P limit l remaining held ≡ held
  skip_far f = skip_all P limit l remaining held (λ e p among m short. unfinished e p among m short (f e p among m))

  -- what is held may have improved
  pub enough_since : (x : Option Choice) (m : List Choice) → x ≡ improve (within P limit) held m → Enough P limit l remaining most x
  enough_since x m e = record {
    beyond = λ d p among i short long.
        rw e (left_later (within P limit) held (choice_of P (l ++ d) p) m (enough.beyond d p among i short long));
  }

  -- one gate further one gate fewer can come
  pub enough_next : (g : ℕ) → Memᴰ g P.gates → 0 < remaining → Enough P limit (l ++ (g ∷ [])) (remaining - 1) (most - 1) held
  enough_next g i some_left = record {
    beyond = λ e p among m short long.
        rw append_assoc (enough.beyond (g ∷ e) p (among_cons i among) m (omega arith) (omega arith));
  }

-- a gate that begins no way to finish
pub skip_gate : (P : Problem) (limit : ℕ) (l : List ℕ) (remaining most : ℕ) (held : Option Choice) → Enough P limit l remaining most held
    → (g : ℕ) → Memᴰ g P.gates → 0 < remaining → 0 < most
    → ((e : List ℕ) (p : ℕ) → Among P.gates e → Memᴰ p P.layouts → suc (length e) ≤ most → P.realized p (l ++ (g ∷ e)) ≡ true → ⊥)
    → looked_under P limit (l ++ (g ∷ [])) (remaining - 1) held ≡ held
skip_gate P limit l remaining most held enough g i some_left some-most f =
    skip_far P limit (l ++ (g ∷ [])) (remaining - 1) (most - 1) held (enough_next P limit l remaining most held enough g i some_left)
    (λ e p among m short r. f e p among m (omega arith) (rw append_assoc at r))
