-- Membership: in lists of which all elements pass a test, in filtered lists, in ranges, and in lists made of the elements of another.
use mathlib.Core.Path.{◌≡◌, refl, sym, ap, ◌∙◌}
use mathlib.Core.Bool.{Bool, true, false, false≢true}
use mathlib.Core.Logic.{◌⊎◌, inl, inr, ⊎_elim}
use mathlib.Core.List.{List, [], ◌∷◌, ◌++◌, map, Memᴰ}
use Prim.Native.Nat.{ℕ, zero, suc, ◌+◌, ◌≤◌, ◌<◌}
use native.Mathlib.Decide.{ℕ_discrete}
use native.Mathlib.Nat.{not-suc-le-zero, le_of_suc-le-suc}
use native.Mathlib.Omega.{arith}
use lib.ListN.{length, get_or, drop, drop_of_length-le}
use lib.Seq.{drop-cons}
use Rattle.logic.specs.Rules.{pick}
use Rattle.logic.specs.Lists.{all_of, keep_only, numbers_from, Among}
use Rattle.logic.proofs.Chain.{both_left, both_right, both_true}

pub member_at : (l : List ℕ) (i : ℕ) → i < length l → Memᴰ (get_or l i 0) l
member_at [] i h = absurd (not-suc-le-zero h)
member_at (x ∷ l) zero h = Memᴰ.head refl
member_at (x ∷ l) (suc i) h = Memᴰ.tail (member_at l i (le_of_suc-le-suc h))

-- the place of an element
pub place_of : (x : ℕ) (l : List ℕ) → Memᴰ x l → (i : ℕ) × ((i < length l) × (get_or l i 0 ≡ x))
place_of x [] m = absurd (mathlib.Core.List.Memᴰ.not-nil m)
place_of x (y ∷ l) m =
    ⊎_elim
    (λ (e : x ≡ y). (0, (omega arith, sym e)))
    (λ (n : Memᴰ x l). let r = place_of x l n in (suc r.0, (omega (arith, r.1.0), r.1.1)))
    (mathlib.Core.List.Memᴰ.cases_cons m)

module _ (f : ℕ → Bool) where
  pub all_member : (a : ℕ) (l : List ℕ) → all_of f l ≡ true → Memᴰ a l → f a ≡ true
  unfolding all_of
  all_member a [] t m = absurd (mathlib.Core.List.Memᴰ.not-nil m)
  all_member a (x ∷ l) t m =
      ⊎_elim (λ (e : a ≡ x). ap f e ∙ both_left (f x) (all_of f l) t) (λ n. all_member a l (both_right (f x) (all_of f l) t) n)
      (mathlib.Core.List.Memᴰ.cases_cons m)

  pub all_members : (l : List ℕ) → ((a : ℕ) → Memᴰ a l → f a ≡ true) → all_of f l ≡ true
  unfolding all_of
  all_members [] h = refl
  all_members (x ∷ l) h = both_true (h x (Memᴰ.head refl)) (all_members l (λ a m. h a (Memᴰ.tail m)))

  -- one element of a filtered list
  kept : (l : List ℕ) (x b : ℕ) (t : Bool) → f x ≡ t
      → (Memᴰ b (keep_only f l) → (f b ≡ true) × Memᴰ b l)
      → Memᴰ b (pick t (x ∷ keep_only f l) (keep_only f l))
      → (f b ≡ true) × Memᴰ b (x ∷ l)
  kept l x b true e rest k =
      ⊎_elim
      (λ (h : b ≡ x). (ap f h ∙ e, Memᴰ.head h))
      (λ (h : Memᴰ b (keep_only f l)). ((rest h).0, Memᴰ.tail (rest h).1))
      (mathlib.Core.List.Memᴰ.cases_cons k)
  kept l x b false e rest k = ((rest k).0, Memᴰ.tail (rest k).1)

  pub keep_is : (l : List ℕ) (b : ℕ) → Memᴰ b (keep_only f l) → (f b ≡ true) × Memᴰ b l
  keep_is [] b m = absurd (mathlib.Core.List.Memᴰ.not-nil m)
  keep_is (x ∷ l) b m = kept l x b (f x) refl (keep_is l b) m

  let_through : (l : List ℕ) (x b : ℕ) (t : Bool) → f x ≡ t → f b ≡ true → Memᴰ b (keep_only f l) ⊎ (b ≡ x)
      → Memᴰ b (pick t (x ∷ keep_only f l) (keep_only f l))
  let_through l x b true e h (inl m) = Memᴰ.tail m
  let_through l x b true e h (inr k) = Memᴰ.head k
  let_through l x b false e h (inl m) = m
  let_through l x b false e h (inr k) = absurd (false≢true (sym e ∙ ap f (sym k) ∙ h))

  pub keep_has : (l : List ℕ) (b : ℕ) → f b ≡ true → Memᴰ b l → Memᴰ b (keep_only f l)
  keep_has [] b h m = absurd (mathlib.Core.List.Memᴰ.not-nil m)
  keep_has (x ∷ l) b h m =
      let_through l x b (f x) refl h
      (⊎_elim (λ (e : b ≡ x). inr e) (λ (k : Memᴰ b l). inl (keep_has l b h k)) (mathlib.Core.List.Memᴰ.cases_cons m))

pub numbers_has : (n i b : ℕ) → i ≤ b → b < i + n → Memᴰ b (numbers_from i n)
numbers_has zero i b h k = absurd (omega arith)
numbers_has (suc n) i b h k = by_first (ℕ_discrete b i) (λ g. numbers_has n (suc i) b g (omega arith))
  where
    by_first : Dec (b ≡ i) → (suc i ≤ b → Memᴰ b (numbers_from (suc i) n)) → Memᴰ b (i ∷ numbers_from (suc i) n)
    by_first (yes e) rest = Memᴰ.head e
    by_first (no d) rest = Memᴰ.tail (rest (omega arith))

pub numbers_at : (n k i d : ℕ) → i < n → get_or (numbers_from k n) i d ≡ k + i
numbers_at zero k i d h = absurd (not-suc-le-zero h)
numbers_at (suc n) k zero d h = omega arith
numbers_at (suc n) k (suc i) d h = omega (arith, numbers_at n (suc k) i d (le_of_suc-le-suc h))

-- a list is the list of its elements by index
spelled_from : (l : List ℕ) (n i : ℕ) → i + n ≡ length l → drop i l ≡ map (λ j. get_or l j 0) (numbers_from i n)
spelled_from l zero i h = let k : length l ≤ i = omega arith in drop_of_length-le l k
spelled_from l (suc n) i h = drop-cons l i 0 (omega arith) ∙ ap (λ (r : List ℕ). get_or l i 0 ∷ r) (spelled_from l n (suc i) (omega arith))

pub spelled : (l : List ℕ) (n : ℕ) → length l ≡ n → map (λ j. get_or l j 0) (numbers_from 0 n) ≡ l
spelled l n h = sym (spelled_from l n 0 (omega arith))

module _ {l : List ℕ} where
  pub among_nil : Among l []
  among_nil x m = absurd (mathlib.Core.List.Memᴰ.not-nil m)

  pub among_cons : {g : ℕ} {e : List ℕ} → Memᴰ g l → Among l e → Among l (g ∷ e)
  among_cons {g} {e} m w h n = ⊎_elim (λ (p : h ≡ g). mathlib.Core.List.Memᴰ.cast p m) (λ (p : Memᴰ h e). w h p) (mathlib.Core.List.Memᴰ.cases_cons n)

  pub among_head : {g : ℕ} {e : List ℕ} → Among l (g ∷ e) → Memᴰ g l
  among_head {g} w = w g (Memᴰ.head refl)

  pub among_tail : {g : ℕ} {e : List ℕ} → Among l (g ∷ e) → Among l e
  among_tail w h m = w h (Memᴰ.tail m)

  pub among_append : (d e : List ℕ) → Among l d → Among l e → Among l (d ++ e)
  among_append d e v w h m = ⊎_elim (λ (p : Memᴰ h d). v h p) (λ (p : Memᴰ h e). w h p) (mathlib.Core.List.Memᴰ.append_cases d m)

-- a test that holds for all elements of a list holds for all elements of a list made of them
pub among_all : (f : ℕ → Bool) (l e : List ℕ) → ((g : ℕ) → Memᴰ g l → f g ≡ true) → Among l e → all_of f e ≡ true
among_all f l e h w = all_members f e (λ g m. h g (w g m))
