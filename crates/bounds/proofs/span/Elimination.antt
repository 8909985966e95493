-- What is left of columns, put to a basis, takes each of the columns to 0; and at most as much is left as there are vectors that span it.
use mathlib.Core.Path.{◌≡◌, sym, ap, ◌∙◌, subst}
use mathlib.Core.List.{List, [], ◌∷◌, ◌++◌, append_assoc}
use Prim.Native.Nat.{ℕ, zero, suc, ◌≤◌}
use native.Mathlib.Decide.{ℕ_discrete}
use native.Mathlib.Omega.{arith}
use borrow.Author.Tests.{eq-eqb, ne_eqb}
use lib.Bits.{bit_and}
use lib.ListN.{length, get_or}
use Rattle.logic.specs.Lists.{along, total}
use Rattle.logic.proofs.Fold.{along_append}
use Rattle.bounds.specs.span.Span.{clear, reduced, rests, one}
use Rattle.logic.proofs.Xor.{Linear, linear_zero, and_xor}
use Rattle.bounds.proofs.span.Clearing.{clear_linear, clear_none, clear_self, reduced_linear}
use Rattle.bounds.proofs.span.Spanned.{Span, one_fewer}

one_none : (y : ℕ) → y ≡ 0 → one y ≡ 0
unfolding one
one_none y h = rw (eq-eqb y 0 h)

one_some : (y : ℕ) → (y ≡ 0 → ⊥) → one y ≡ 1
unfolding one
one_some y h = rw (ne_eqb y 0 h)

pub reduced_more : (basis : List ℕ) (y x : ℕ) → reduced (basis ++ (y ∷ [])) x ≡ clear y (reduced basis x)
unfolding along
reduced_more basis y x = along_append clear basis (y ∷ []) x

-- a basis goes on from what is cleared already
own_kept : (basis more : List ℕ) (x : ℕ) → reduced (basis ++ (reduced basis x ∷ more)) x ≡ 0
unfolding along
own_kept basis more x =
    along_append clear basis (reduced basis x ∷ more) x
    ∙ ap (reduced more) (clear_self (reduced basis x))
    ∙ linear_zero (reduced more) (reduced_linear more)

module _ (rows : ℕ) where
  -- what a basis leaves of a column on the rows
  abbrev pub rest : List ℕ → ℕ → ℕ
  rest basis c = reduced basis (bit_and rows c)

  pub rest_linear : (basis : List ℕ) → Linear (rest basis)
  rest_linear basis a b = ap (reduced basis) (and_xor rows a b) ∙ reduced_linear basis (bit_and rows a) (bit_and rows b)

  pub rests_own : (cs basis : List ℕ) (i : ℕ) → rest (basis ++ rests rows cs basis) (get_or cs i 0) ≡ 0
  unfolding rests
  rests_own [] basis i = linear_zero (rest (basis ++ [])) (rest_linear (basis ++ []))
  rests_own (c ∷ cs) basis zero = own_kept basis (rests rows cs (basis ++ (rest basis c ∷ []))) (bit_and rows c)
  rests_own (c ∷ cs) basis (suc i) =
      let next = basis ++ (rest basis c ∷ []) in
      ap (λ l. rest l (get_or cs i 0)) (sym (append_assoc basis (rest basis c ∷ []) (rests rows cs next))) ∙ rests_own cs next i

  pub rests_few : (cs basis vs : List ℕ) → ((i : ℕ) → Span vs (rest basis (get_or cs i 0))) → total one (rests rows cs basis) ≤ length vs
  unfolding rests total
  rests_few [] basis vs k = omega arith
  rests_few (c ∷ cs) basis vs k = by_rest (rests_few cs (basis ++ (rest basis c ∷ []))) (ℕ_discrete (rest basis c) 0)
    where
      by_rest : ((ws : List ℕ) → ((i : ℕ) → Span ws (rest (basis ++ (rest basis c ∷ [])) (get_or cs i 0))) → total one (rests rows cs (basis ++ (rest basis c ∷ []))) ≤ length ws)
          → Dec (rest basis c ≡ 0) → total one (rests rows (c ∷ cs) basis) ≤ length vs
      by_rest go (yes e) =
          let same : (x : ℕ) → rest basis x ≡ rest (basis ++ (rest basis c ∷ [])) x = λ x. sym (reduced_more basis (rest basis c) (bit_and rows x) ∙ ap (λ b. clear b (rest basis x)) e ∙ clear_none (rest basis x)) in
          omega (arith, one_none (rest basis c) e, go vs (λ i. subst (Span vs) (same (get_or cs i 0)) (k (suc i))))
      by_rest go (no n) =
          let y = rest basis c in
          let t = one_fewer (clear y) (clear_linear y) vs y (clear_self y) n (k 0) in
          let m = go t.0 (λ i. subst (Span t.0) (sym (reduced_more basis y (bit_and rows (get_or cs i 0)))) (t.2 (rest basis (get_or cs i 0)) (k (suc i)))) in
          omega (arith, one_some y n, m, t.1)
