-- A step that makes a list smaller, repeated: as many times as the list is large are enough, and it does not matter how many more there may be.
use mathlib.Core.Path.{◌≡◌, refl, sym, ap, ◌∙◌}
use mathlib.Core.List.{List}
use mathlib.Core.Option.{Option, none, some}
use Prim.Native.Nat.{ℕ, zero, suc, ◌≤◌, ◌<◌}
use native.Mathlib.Omega.{arith}
use Rattle.peephole.specs.windows.Windows.{or_stay, repeated}

module _ (next : List ℕ → Option (List ℕ)) where
  -- where there is no step, the list stays
  pub repeated_stays : (most : ℕ) (l : List ℕ) → next l ≡ none → repeated next most l ≡ l
  unfolding repeated
  repeated_stays zero l e = refl
  repeated_stays (suc most) l e = ap (λ (o : Option (List ℕ)). or_stay o l (repeated next most)) e

  pub repeated_goes : (most : ℕ) (l m : List ℕ) → next l ≡ some m → repeated next (suc most) l ≡ repeated next most m
  unfolding repeated
  repeated_goes most l m e = ap (λ (o : Option (List ℕ)). or_stay o l (repeated next most)) e

  -- what each step keeps, all steps keep
  pub repeated_keeps : (Kept : List ℕ → Type 0) → ((l m : List ℕ) → next l ≡ some m → Kept l → Kept m)
      → (most : ℕ) (l : List ℕ) → Kept l → Kept (repeated next most l)
  unfolding repeated
  repeated_keeps Kept keeps zero l h = h
  repeated_keeps Kept keeps (suc most) l h = by_step (next l) refl (λ m e. repeated_keeps Kept keeps most m (keeps l m e h))
    where
      by_step : (o : Option (List ℕ)) → next l ≡ o → ((m : List ℕ) → next l ≡ some m → Kept (repeated next most m))
          → Kept (or_stay o l (repeated next most))
      by_step none e after = h
      by_step (some m) e after = after m e

  module _ (size : List ℕ → ℕ) (falls : (l m : List ℕ) → next l ≡ some m → size m < size l) where
    -- a list with nothing to lose has no step
    least_stays : (l : List ℕ) → size l ≤ 0 → next l ≡ none
    least_stays l h = by_step (next l) refl
      where
        by_step : (o : Option (List ℕ)) → next l ≡ o → o ≡ none
        by_step none e = refl
        by_step (some m) e = absurd (omega (arith, falls l m e))

    -- it ends
    pub ends : (most : ℕ) (l : List ℕ) → size l ≤ most → next (repeated next most l) ≡ none
    unfolding repeated
    ends zero l h = least_stays l h
    ends (suc most) l h = by_step (next l) refl (λ m e. ends most m (omega (arith, falls l m e)))
      where
        by_step : (o : Option (List ℕ)) → next l ≡ o → ((m : List ℕ) → next l ≡ some m → next (repeated next most m) ≡ none)
            → next (or_stay o l (repeated next most)) ≡ none
        by_step none e after = e
        by_step (some m) e after = after m e

    -- more steps change nothing
    pub same_end : (most more : ℕ) (l : List ℕ) → size l ≤ most → size l ≤ more → repeated next most l ≡ repeated next more l
    unfolding repeated
    same_end zero more l h g = sym (repeated_stays more l (least_stays l h))
    same_end (suc most) zero l h g = repeated_stays (suc most) l (least_stays l g)
    same_end (suc most) (suc more) l h g =
        by_step (next l) refl (λ m e. same_end most more m (omega (arith, falls l m e)) (omega (arith, falls l m e)))
      where
        by_step : (o : Option (List ℕ)) → next l ≡ o → ((m : List ℕ) → next l ≡ some m → repeated next most m ≡ repeated next more m)
            → or_stay o l (repeated next most) ≡ or_stay o l (repeated next more)
        by_step none e after = refl
        by_step (some m) e after = after m e

    -- after one step the end is the same
    pub onward : (l m : List ℕ) → next l ≡ some m → repeated next (size l) l ≡ repeated next (size m) m
    onward l m e = by_size (size l) refl
      where
        by_size : (n : ℕ) → size l ≡ n → repeated next n l ≡ repeated next (size m) m
        by_size zero q = absurd (omega (arith, falls l m e))
        by_size (suc n) q = repeated_goes n l m e ∙ same_end n (size m) m (omega (arith, falls l m e)) (omega arith)
