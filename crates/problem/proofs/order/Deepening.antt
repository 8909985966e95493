-- Searching under limits on the first two keys. The first limits under which a search finds something give the answer, where nothing good
-- was left below them.
use mathlib.Core.Path.{◌≡◌, refl, sym, ap, ◌∙◌}
use mathlib.Core.Bool.{Bool, true, false, true≢false}
use mathlib.Core.Logic.{◌⊎◌, inl, inr}
use mathlib.Core.List.{List, Memᴰ}
use mathlib.Core.Option.{Option, none, some}
use Prim.Native.Nat.{ℕ, ◌≤◌, ◌<◌}
use native.Mathlib.Omega.{arith}
use borrow.Author.Tests.{leb-true, leb-false}
use lib.Dec.{leb}
use Rattle.problem.specs.order.Choices.{Choice, before, improve}
use Rattle.problem.proofs.order.Order.{asymmetric}
use Rattle.problem.proofs.order.First.{found, nothing}

-- a good choice that comes before all others is what `improve` gives
pub first_is : (good : Choice → Bool) (l : List Choice) (c : Choice) → Memᴰ c l → good c ≡ true
    → ((a : Choice) → Memᴰ a l → good a ≡ true → (a ≡ c) ⊎ (before c a ≡ true))
    → improve good none l ≡ some c
first_is good l c m h f = by_first (improve good none l) refl
  where
    same : (d : Choice) → (d ≡ c) ⊎ (before c d ≡ true) → (c ≡ d) ⊎ (before d c ≡ true) → d ≡ c
    same d (inl e) q = e
    same d (inr p) (inl e) = sym e
    same d (inr p) (inr q) = absurd (true≢false (sym q ∙ asymmetric c d p))

    by_first : (o : Option Choice) → improve good none l ≡ o → improve good none l ≡ some c
    by_first none e = absurd (true≢false (sym h ∙ (nothing good l).0 e c m))
    by_first (some d) e = let g = found good l d e in e ∙ ap some (same d (f d g.0 g.1.0) (g.1.1 c m h))

-- the law, over any first key and any second one. `tight` on m is the search under the limits, `good` on l the one without them
module _ (good tight : Choice → Bool) (l m : List Choice) (first second : Choice → ℕ) (limit most : ℕ)
    (by_first : (a b : Choice) → first a < first b → before a b ≡ true)
    (by-second : (a b : Choice) → first a ≤ first b → second a < second b → before a b ≡ true)
    (out : (a : Choice) → Memᴰ a m → tight a ≡ true → Memᴰ a l × ((good a ≡ true) × ((first a ≤ limit) × (second a ≤ most))))
    (back : (a : Choice) → Memᴰ a l → good a ≡ true → first a ≤ limit → second a ≤ most → Memᴰ a m × (tight a ≡ true)) where
  -- a search under limits that finds nothing leaves nothing good within them
  pub exhausted : improve tight none m ≡ none → (a : Choice) → Memᴰ a l → good a ≡ true → first a ≤ limit → most < second a
  exhausted e a n h p = by_test (leb (second a) most) refl
    where
      by_test : (t : Bool) → leb (second a) most ≡ t → most < second a
      by_test true q = let b = back a n h p (leb-true (second a) most q) in absurd (true≢false (sym b.1 ∙ (nothing tight m).0 e a b.0))
      by_test false q = leb-false (second a) most q

  -- one that finds c has the answer, where nothing good comes before c by the first key, and nothing within the limit has a lesser second
  -- key than `most`
  pub settled : (c : Choice) → improve tight none m ≡ some c
      → ((a : Choice) → Memᴰ a l → good a ≡ true → first c ≤ first a)
      → improve good none l ≡ some c
  settled c e low =
      let t = found tight m c e in
      let o = out c t.0 t.1.0 in
      first_is good l c o.0 o.1.0 λ a n h. by_limit a n h (low a n h) o.1.1 (t.1.1 a) (leb (first a) limit) refl
    where
      by_most : (a : Choice) → Memᴰ a l → good a ≡ true → first c ≤ first a → second c ≤ most → first a ≤ limit
          → (Memᴰ a m → tight a ≡ true → (a ≡ c) ⊎ (before c a ≡ true)) → (t : Bool) → leb (second a) most ≡ t → (a ≡ c) ⊎ (before c a ≡ true)
      by_most a n h p s q f true w = let b = back a n h q (leb-true (second a) most w) in f b.0 b.1
      by_most a n h p s q f false w = let k = leb-false (second a) most w in inr (by-second c a p (omega arith))

      by_limit : (a : Choice) → Memᴰ a l → good a ≡ true → first c ≤ first a → (first c ≤ limit) × (second c ≤ most)
          → (Memᴰ a m → tight a ≡ true → (a ≡ c) ⊎ (before c a ≡ true)) → (t : Bool) → leb (first a) limit ≡ t → (a ≡ c) ⊎ (before c a ≡ true)
      by_limit a n h p s f true w = by_most a n h p s.1 (leb-true (first a) limit w) f (leb (second a) most) refl
      by_limit a n h p s f false w = let k = leb-false (first a) limit w in let u = s.0 in inr (by_first c a (omega arith))
