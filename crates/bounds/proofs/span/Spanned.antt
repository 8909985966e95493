-- What a list of vectors spans, and what a linear map does to it: a map that kills a vector of the span makes one vector of the list spare.
use mathlib.Core.Path.{◌≡◌, refl, sym, ap, ap₂, ◌∙◌, subst}
use mathlib.Core.Logic.{◌⊎◌, inl, inr}
use mathlib.Core.List.{List, [], ◌∷◌, map}
use Prim.Native.Nat.{ℕ, suc}
use lib.Bits.{bit_xor, xor_zero_r}
use lib.ListN.{length}
use Rattle.logic.proofs.Xor.{Linear, linear_zero, xor_assoc, xor_swap, xor_both}

-- x is the XOR of some of the vectors
abbrev pub Span : List ℕ → ℕ → Type 0
Span [] x = x ≡ 0
Span (v ∷ vs) x = Span vs x ⊎ Span vs (bit_xor x v)

pub span_zero : (vs : List ℕ) → Span vs 0
span_zero [] = refl
span_zero (v ∷ vs) = inl (span_zero vs)

pub span_xor : (vs : List ℕ) (x y : ℕ) → Span vs x → Span vs y → Span vs (bit_xor x y)
span_xor [] x y p q = ap₂ bit_xor p q
span_xor (v ∷ vs) x y (inl p) (inl q) = inl (span_xor vs x y p q)
span_xor (v ∷ vs) x y (inl p) (inr q) = inr (subst (Span vs) (sym (xor_assoc x y v)) (span_xor vs x (bit_xor y v) p q))
span_xor (v ∷ vs) x y (inr p) (inl q) = inr (subst (Span vs) (xor_swap x v y) (span_xor vs (bit_xor x v) y p q))
span_xor (v ∷ vs) x y (inr p) (inr q) = inl (subst (Span vs) (xor_both x y v) (span_xor vs (bit_xor x v) (bit_xor y v) p q))

module _ (f : ℕ → ℕ) (linear : Linear f) where
  image : (vs : List ℕ) (x : ℕ) → Span vs x → Span (map f vs) (f x)
  image [] x p = ap f p ∙ linear_zero f linear
  image (v ∷ vs) x (inl p) = inl (image vs x p)
  image (v ∷ vs) x (inr p) = inr (subst (Span (map f vs)) (linear x v) (image vs (bit_xor x v) p))

  length_image : (vs : List ℕ) → length (map f vs) ≡ length vs
  length_image [] = refl
  length_image (v ∷ vs) = ap suc (length_image vs)

  -- one vector fewer spans the images, where f kills a vector of the span that is not 0
  pub one_fewer : (vs : List ℕ) (x : ℕ) → f x ≡ 0 → (x ≡ 0 → ⊥) → Span vs x
      → (ws : List ℕ) × (suc (length ws) ≡ length vs) × ((y : ℕ) → Span vs y → Span ws (f y))
  one_fewer [] x z n p = absurd (n p)
  one_fewer (v ∷ vs) x z n (inl p) =
      let t = one_fewer vs x z n p in
      (f v ∷ t.0, ap suc t.1, λ y q. keep t.0 t.2 y q)
    where
      keep : (ws : List ℕ) → ((y : ℕ) → Span vs y → Span ws (f y)) → (y : ℕ) → Span vs y ⊎ Span vs (bit_xor y v) → Span ws (f y) ⊎ Span ws (bit_xor (f y) (f v))
      keep ws k y (inl q) = inl (k y q)
      keep ws k y (inr q) = inr (subst (Span ws) (linear y v) (k (bit_xor y v) q))
  one_fewer (v ∷ vs) x z n (inr p) = (map f vs, ap suc (length_image vs), λ y q. cut y q)
    where
      same : (y : ℕ) → f (bit_xor y x) ≡ f y
      same y = linear y x ∙ ap (bit_xor (f y)) z ∙ xor_zero_r (f y)

      cut : (y : ℕ) → Span vs y ⊎ Span vs (bit_xor y v) → Span (map f vs) (f y)
      cut y (inl q) = image vs y q
      cut y (inr q) =
          subst (Span (map f vs)) (same y)
          (image vs (bit_xor y x) (subst (Span vs) (xor_both y x v) (span_xor vs (bit_xor y v) (bit_xor x v) q p)))
