-- Lists in order: each element comes before all that follow it. What is made in order of lists in order is in order.
use mathlib.Core.Path.{◌≡◌, refl, subst}
use mathlib.Core.Bool.{Bool, true, false}
use mathlib.Core.Logic.{⊎_elim}
use mathlib.Core.List.Memᴰ
use mathlib.Core.List.{List, [], ◌∷◌, ◌++◌, map, flat_map, Memᴰ}
use Prim.Native.Nat.{ℕ, zero, suc, ◌≤◌, ◌<◌}
use native.Mathlib.Nat.{not-suc-le-zero, le_of_suc-le-suc}
use native.Mathlib.Omega.{arith}
use lib.ListN.{length, get_or}
use Rattle.logic.specs.Rules.{pick}
use Rattle.logic.specs.Lists.{keep_only, numbers_from}
use Rattle.logic.proofs.Members.{keep_is}
use Rattle.problem.proofs.order.Enumeration.{flat_map_is}

module _ {A : Type 0} (R : A → A → Type 0) where
  abbrev pub Ordered : List A → Type 0
  Ordered [] = Unit {0}
  Ordered (x ∷ l) = ((y : A) → Memᴰ y l → R x y) × Ordered l

  member : (l : List A) (d : A) (i : ℕ) → i < length l → Memᴰ (get_or l i d) l
  member [] d i h = absurd (not-suc-le-zero h)
  member (x ∷ l) d zero h = Memᴰ.head refl
  member (x ∷ l) d (suc i) h = Memᴰ.tail (member l d i (le_of_suc-le-suc h))

  pub ordered_at : (l : List A) (d : A) (r s : ℕ) → Ordered l → r < s → s < length l → R (get_or l r d) (get_or l s d)
  ordered_at [] d r s o h k = absurd (not-suc-le-zero k)
  ordered_at (x ∷ l) d r zero o h k = absurd (not-suc-le-zero h)
  ordered_at (x ∷ l) d zero (suc s) o h k = o.0 (get_or l s d) (member l d s (le_of_suc-le-suc k))
  ordered_at (x ∷ l) d (suc r) (suc s) o h k = ordered_at l d r s o.1 (le_of_suc-le-suc h) (le_of_suc-le-suc k)

  ordered_append : (l m : List A) → Ordered l → Ordered m → ((x y : A) → Memᴰ x l → Memᴰ y m → R x y) → Ordered (l ++ m)
  ordered_append [] m o p apart = p
  ordered_append (x ∷ l) m o p apart = (
    λ y i.
        ⊎_elim (λ (j : Memᴰ y l). o.0 y j) (λ (j : Memᴰ y m). apart x y (Memᴰ.head refl) j) (Memᴰ.append_cases l i),
    ordered_append l m o.1 p (λ a b i j. apart a b (Memᴰ.tail i) j),
  )

  pub ordered_one : (x : A) → Ordered (x ∷ [])
  ordered_one x = (λ y i. absurd (Memᴰ.not-nil i), tt)

module _ {A B : Type 0} (S : A → A → Type 0) (R : B → B → Type 0) where
  pub ordered_map : (f : A → B) (l : List A) → Ordered S l → ((a b : A) → S a b → R (f a) (f b)) → Ordered R (map f l)
  ordered_map f [] o h = tt
  ordered_map f (a ∷ l) o h = (
    λ y i. let r = Memᴰ.of_map f l i in subst (R (f a)) r.2 (h a r.0 (o.0 r.0 r.1)),
    ordered_map f l o.1 h,
  )

  -- the parts are in order, and of two parts all of the one comes before all of the other
  pub ordered_flat_map : (f : A → List B) (l : List A) → Ordered S l → ((a : A) → Ordered R (f a))
      → ((a b : A) → Memᴰ a l → Memᴰ b l → S a b → (x y : B) → Memᴰ x (f a) → Memᴰ y (f b) → R x y)
      → Ordered R (flat_map f l)
  unfolding flat_map
  ordered_flat_map f [] o each apart = tt
  ordered_flat_map f (a ∷ l) o each apart =
      ordered_append R (f a) (flat_map f l) (each a)
      (ordered_flat_map f l o.1 each (λ b c i j. apart b c (Memᴰ.tail i) (Memᴰ.tail j)))
      (λ x y i j.
      let r = flat_map_is f y l j in
      apart a r.0 (Memᴰ.head refl) (Memᴰ.tail r.1.0) (o.0 r.0 r.1.0) x y i r.1.1)

abbrev pub Less : ℕ → ℕ → Type 0
Less a b = a < b

-- numbers, and those of them that pass a test
numbers_least : (n i b : ℕ) → Memᴰ b (numbers_from i n) → i ≤ b
numbers_least zero i b m = absurd (Memᴰ.not-nil m)
numbers_least (suc n) i b m =
    ⊎_elim (λ (e : b ≡ i). omega arith) (λ (k : Memᴰ b (numbers_from (suc i) n)). omega (arith, numbers_least n (suc i) b k)) (Memᴰ.cases_cons m)

pub ordered_numbers : (n i : ℕ) → Ordered Less (numbers_from i n)
ordered_numbers zero i = tt
ordered_numbers (suc n) i = (λ b m. omega (arith, numbers_least n (suc i) b m), ordered_numbers n (suc i))

ordered_kept : (f : ℕ → Bool) (l : List ℕ) → Ordered Less l → Ordered Less (keep_only f l)
ordered_kept f [] o = tt
ordered_kept f (x ∷ l) o = by_first (f x) (ordered_kept f l o.1)
  where
    by_first : (t : Bool) → Ordered Less (keep_only f l) → Ordered Less (pick t (x ∷ keep_only f l) (keep_only f l))
    by_first true p = (λ y i. o.0 y (keep_is f l y i).1, p)
    by_first false p = p

pub ordered_filtered : (f : ℕ → Bool) (n i : ℕ) → Ordered Less (keep_only f (numbers_from i n))
ordered_filtered f n i = ordered_kept f (numbers_from i n) (ordered_numbers n i)
