-- Lists of known length, number by number, for the code that has no loop.
use mathlib.Core.Path.{◌≡◌, sym, ap, ◌∙◌}
use mathlib.Core.List.{List, [], ◌∷◌, ◌++◌, map}
use Prim.Native.Nat.{ℕ, ◌+◌}
use native.Mathlib.Omega.{arith}
use lib.Bits.{bit_and}
use lib.ListN.{length, get_or}
use Rattle.logic.specs.Lists.{along, total, numbers_from}
use Rattle.logic.proofs.Members.{spelled}
use Rattle.bounds.specs.span.Span.{clear, reduced, rests, one, fresh, generators}
use Rattle.bounds.proofs.span.Elimination.{reduced_more}

-- n numbers from number i on
abbrev cells : List ℕ → ℕ → ℕ → List ℕ
cells l i n = map (λ j. get_or l j 0) (numbers_from i n)

next : (rows c y : ℕ) (cs basis : List ℕ) → y ≡ reduced basis (bit_and rows c) → rests rows (c ∷ cs) basis ≡ y ∷ rests rows cs (basis ++ (y ∷ []))
unfolding rests
next rows c y cs basis e = ap (λ x. x ∷ rests rows cs (basis ++ (x ∷ []))) (sym e)

module _ (rows : ℕ) (l : List ℕ) where
  pub rests_six : length l ≡ 5 → (a b c d e f : ℕ)
      → a ≡ bit_and rows 65535
      → b ≡ clear a (bit_and rows (get_or l 0 0))
      → c ≡ clear b (clear a (bit_and rows (get_or l 1 0)))
      → d ≡ clear c (clear b (clear a (bit_and rows (get_or l 2 0))))
      → e ≡ clear d (clear c (clear b (clear a (bit_and rows (get_or l 3 0)))))
      → f ≡ clear e (clear d (clear c (clear b (clear a (bit_and rows (get_or l 4 0))))))
      → (a ∷ b ∷ c ∷ d ∷ e ∷ f ∷ []) ≡ rests rows (generators l) []
  unfolding rests along
  rests_six h a b c d e f ha hb hc hd he hf =
      sym (ap (λ m. rests rows (generators m) []) (sym (spelled l 5 h))
      ∙ next rows 65535 a (cells l 0 5) [] ha
      ∙ ap (λ r. a ∷ r) (next rows (get_or l 0 0) b (cells l 1 4) (a ∷ []) hb)
      ∙ ap (λ r. a ∷ b ∷ r) (next rows (get_or l 1 0) c (cells l 2 3) (a ∷ b ∷ []) hc)
      ∙ ap (λ r. a ∷ b ∷ c ∷ r) (next rows (get_or l 2 0) d (cells l 3 2) (a ∷ b ∷ c ∷ []) hd)
      ∙ ap (λ r. a ∷ b ∷ c ∷ d ∷ r) (next rows (get_or l 3 0) e (cells l 4 1) (a ∷ b ∷ c ∷ d ∷ []) he)
      ∙ ap (λ r. a ∷ b ∷ c ∷ d ∷ e ∷ r) (next rows (get_or l 4 0) f [] (a ∷ b ∷ c ∷ d ∷ e ∷ []) hf))

  module _ (basis : List ℕ) where
    more_two : (a b x : ℕ) → clear b (clear a (reduced basis x)) ≡ reduced (basis ++ (a ∷ []) ++ (b ∷ [])) x
    more_two a b x = sym (reduced_more (basis ++ (a ∷ [])) b x ∙ ap (clear b) (reduced_more basis a x))

    more_three : (a b c x : ℕ) → clear c (clear b (clear a (reduced basis x))) ≡ reduced (basis ++ (a ∷ []) ++ (b ∷ []) ++ (c ∷ [])) x
    more_three a b c x = ap (clear c) (more_two a b x) ∙ sym (reduced_more (basis ++ (a ∷ []) ++ (b ∷ [])) c x)

    pub fresh_four : length l ≡ 4 → (a b c d : ℕ)
        → a ≡ reduced basis (bit_and rows (get_or l 0 0))
        → b ≡ clear a (reduced basis (bit_and rows (get_or l 1 0)))
        → c ≡ clear b (clear a (reduced basis (bit_and rows (get_or l 2 0))))
        → d ≡ clear c (clear b (clear a (reduced basis (bit_and rows (get_or l 3 0)))))
        → one a + (one b + (one c + one d)) ≡ fresh rows l basis
    unfolding rests fresh total
    fresh_four h a b c d ha hb hc hd =
        let e = ap (total one) (ap (λ m. rests rows m basis) (sym (spelled l 4 h))
        ∙ next rows (get_or l 0 0) a (cells l 1 3) basis ha
        ∙ ap (λ r. a ∷ r) (next rows (get_or l 1 0) b (cells l 2 2) (basis ++ (a ∷ [])) (hb ∙ sym (reduced_more basis a (bit_and rows (get_or l 1 0)))))
        ∙ ap (λ r. a ∷ b ∷ r) (next rows (get_or l 2 0) c (cells l 3 1) (basis ++ (a ∷ []) ++ (b ∷ [])) (hc ∙ more_two a b (bit_and rows (get_or l 2 0))))
        ∙ ap (λ r. a ∷ b ∷ c ∷ r) (next rows (get_or l 3 0) d [] (basis ++ (a ∷ []) ++ (b ∷ []) ++ (c ∷ [])) (hd ∙ more_three a b c (bit_and rows (get_or l 3 0))))) in
        omega arith
