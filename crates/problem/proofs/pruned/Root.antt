-- Skipping what is beaten loses nothing: with no incumbent at first, the pruned list gives the same answer as the full one.
use mathlib.Core.Path.{◌≡◌, refl, sym, ap, ◌∙◌, subst}
use mathlib.Core.Bool.{Bool, true, true≢false}
use mathlib.Core.Logic.{⊎_elim}
use mathlib.Core.List.{List, [], ◌∷◌, ◌++◌, Memᴰ}
use mathlib.Core.Option.{Option, none, some}
use Prim.Native.Nat.{ℕ, ◌≤◌}
use lib.ListN.{length}
use Rattle.logic.specs.Lists.{Among}
use Rattle.logic.proofs.Chain.{not_so}
use Rattle.problem.specs.order.Choices.{Choice, before, improve, under}
use Rattle.problem.proofs.order.Order.{irreflexive, asymmetric}
use Rattle.problem.proofs.order.First.{found, nothing}
use Rattle.problem.proofs.order.Deepening.{first_is}
use Rattle.problem.proofs.order.Enumeration.{under_is}
use Rattle.problem.specs.pruned.Pruned.{pruned, Beaten}
use Rattle.problem.proofs.pruned.Listing.{pruned_under, pruned_has}

module _ (skip : List ℕ → ℕ → Bool) (here : List ℕ → List Choice) (gates : List ℕ) (k : ℕ) (good : Choice → Bool) (beaten : Beaten skip here gates k good) where
  -- no gate of the first good choice is skipped: something would come before it
  unskipped : (c : Choice) → improve good none (under here gates [] k) ≡ some c → (d r : List ℕ) (g : ℕ) → Among gates (d ++ (g ∷ r)) → length (d ++ (g ∷ r)) ≤ k
      → Memᴰ c (here (d ++ (g ∷ r))) → skip d g ≡ true → ⊥
  unskipped c e d r g w n m t =
      let f = found good (under here gates [] k) c e in
      let b = beaten d r g c t w n m f.1.0 in
      let p = b.1.1.1 in
      ⊎_elim
      (λ (s : b.0 ≡ c). true≢false (sym p ∙ ap (λ (x : Choice). before x c) s ∙ irreflexive c))
      (λ (q : before c b.0 ≡ true). true≢false (sym q ∙ asymmetric b.0 c p))
      (f.1.1 b.0 b.1.0 b.1.1.0)

  first_kept : (c : Choice) → improve good none (under here gates [] k) ≡ some c → Memᴰ c (pruned skip here gates [] k)
  first_kept c e =
      let u = under_is here gates [] k c (found good (under here gates [] k) c e).0 in
      pruned_has skip here gates [] k c u.0 u.1.0 u.1.1.0
      (λ d r g s.
      not_so (skip d g)
      (unskipped c e d r g (subst (λ (x : List ℕ). Among gates x) s u.1.0) (subst (λ (x : List ℕ). length x ≤ k) s u.1.1.0)
      (subst (λ (x : List ℕ). Memᴰ c (here x)) s u.1.1.1)))
      u.1.1.1

  pub root : improve good none (pruned skip here gates [] k) ≡ improve good none (under here gates [] k)
  root = by_first (improve good none (under here gates [] k)) refl
    where
      by_first : (o : Option Choice) → improve good none (under here gates [] k) ≡ o → improve good none (pruned skip here gates [] k) ≡ o
      by_first none e = (nothing good (pruned skip here gates [] k)).1 (λ a m. (nothing good (under here gates [] k)).0 e a (pruned_under skip here gates [] k a m))
      by_first (some c) e =
          let f = found good (under here gates [] k) c e in
          first_is good (pruned skip here gates [] k) c (first_kept c e) f.1.0 (λ a m g. f.1.1 a (pruned_under skip here gates [] k a m) g)
