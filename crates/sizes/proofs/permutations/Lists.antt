-- Lists of different values, what is left of them, and lists joined from parts of one length.
use mathlib.Core.Path.{◌≡◌, refl, sym, ap, ◌∙◌}
use mathlib.Core.Bool.{Bool, true, false, false≢true}
use mathlib.Core.Logic.{⊎_elim}
use mathlib.Core.List.Memᴰ
use mathlib.Core.List.{List, [], ◌∷◌, ◌++◌, map, flat_map, Memᴰ}
use Prim.Native.Nat.{ℕ, zero, suc, ◌+◌, ◌*◌, ◌<◌}
use native.Mathlib.Decide.{ℕ_discrete}
use native.Mathlib.Nat.{not-suc-le-zero, le_of_suc-le-suc, zero-mul, suc-mul}
use native.Mathlib.Omega.{arith}
use borrow.Author.Tests.{eq-eqb, ne_eqb, not-true}
use lib.Dec.{eqb}
use lib.ListN.{length, get_or, length-append, get_or-append}
use lib.Seq.{get_or-append-add}
use Rattle.logic.specs.Rules.{pick}
use Rattle.logic.specs.Lists.{all_of, keep_only}
use Rattle.logic.proofs.Chain.{both_left, both_right, both_true}
use Rattle.logic.proofs.Members.{all_member, all_members, keep_is}
use Rattle.parity.specs.Parity.{differs, distinct}
use Rattle.sizes.specs.permutations.Orders.{without}

pub map_at : {A B : Type 0} (f : A → B) (l : List A) (i : ℕ) (d : A) (e : B) → i < length l → get_or (map f l) i e ≡ f (get_or l i d)
map_at f [] i d e h = absurd (not-suc-le-zero h)
map_at f (x ∷ l) zero d e h = refl
map_at f (x ∷ l) (suc i) d e h = map_at f l i d e (le_of_suc-le-suc h)

-- parts of m elements each, one after the other
module _ {A B : Type 0} (f : A → List B) (m : ℕ) where
  abbrev Even : List A → Type 0
  Even l = (x : A) → Memᴰ x l → length (f x) ≡ m

  even_tail : (x : A) (l : List A) → Even (x ∷ l) → Even l
  even_tail x l h y n = h y (Memᴰ.tail n)

  pub flat_length : (l : List A) → Even l → length (flat_map f l) ≡ length l * m
  unfolding flat_map
  flat_length [] h = sym (zero-mul m)
  flat_length (x ∷ l) h =
      let a = length-append (f x) (flat_map f l) in
      let b = h x (Memᴰ.head refl) in
      let c = flat_length l (even_tail x l h) in
      let d = suc-mul (length l) m in
      omega arith

  pub flat_at : (l : List A) (i j : ℕ) (d : A) (e : B) → Even l → i < length l → j < m → get_or (flat_map f l) (i * m + j) e ≡ get_or (f (get_or l i d)) j e
  unfolding flat_map
  flat_at [] i j d e h hi hj = absurd (not-suc-le-zero hi)
  flat_at (x ∷ l) zero j d e h hi hj =
      let b = h x (Memᴰ.head refl) in
      let k : zero * m + j ≡ j = omega (arith, zero-mul m) in
      ap (λ (n : ℕ). get_or (f x ++ flat_map f l) n e) k ∙ get_or-append (f x) (flat_map f l) e j (omega arith)
  flat_at (x ∷ l) (suc i) j d e h hi hj =
      let b = h x (Memᴰ.head refl) in
      let k : suc i * m + j ≡ length (f x) + (i * m + j) = omega (arith, suc-mul i m) in
      ap (λ (n : ℕ). get_or (f x ++ flat_map f l) n e) k
      ∙ get_or-append-add (f x) (flat_map f l) (i * m + j) e
      ∙ flat_at l i j d e (even_tail x l h) (le_of_suc-le-suc hi) hj

-- the elements at which a test holds, of a list of different ones
module _ (f : ℕ → Bool) where
  pub keep_distinct : (l : List ℕ) → distinct l ≡ true → distinct (keep_only f l) ≡ true
  unfolding distinct
  keep_distinct [] h = refl
  keep_distinct (y ∷ l) h = by_first (f y) (keep_distinct l (both_right (all_of (differs y) l) (distinct l) h))
    where
      by_first : (t : Bool) → distinct (keep_only f l) ≡ true → distinct (pick t (y ∷ keep_only f l) (keep_only f l)) ≡ true
      by_first true k =
          both_true
          (all_members (differs y) (keep_only f l) (λ a m.
          all_member (differs y) a l (both_left (all_of (differs y) l) (distinct l) h) (keep_is f l a m).1))
          k
      by_first false k = k

  pub keep_all : (l : List ℕ) → all_of f l ≡ true → keep_only f l ≡ l
  unfolding all_of
  keep_all [] h = refl
  keep_all (y ∷ l) h = rw (both_left (f y) (all_of f l) h, keep_all l (both_right (f y) (all_of f l) h))

-- a value that is taken out leaves one less
pub without_length : (x : ℕ) (l : List ℕ) → distinct l ≡ true → Memᴰ x l → suc (length (without x l)) ≡ length l
unfolding distinct
without_length x [] h m = absurd (Memᴰ.not-nil m)
without_length x (y ∷ l) h m = by_first (ℕ_discrete y x) (without_length x l (both_right (all_of (differs y) l) (distinct l) h))
  where
    by_first : Dec (y ≡ x) → (Memᴰ x l → suc (length (without x l)) ≡ length l) → suc (length (without x (y ∷ l))) ≡ length (y ∷ l)
    by_first (yes e) rest =
        let k : all_of (differs x) l ≡ true = rw e at (both_left (all_of (differs y) l) (distinct l) h) in
        rw (eq-eqb y x e, keep_all (differs x) l k)
    by_first (no n) rest =
        let k = rest (⊎_elim (λ (e : x ≡ y). absurd (n (sym e))) (λ (i : Memᴰ x l). i) (Memᴰ.cases_cons m)) in
        rw (ne_eqb y x n) (ap suc k)

-- different values stay different under a function that takes no two of them to one
module _ (f : ℕ → ℕ) where
  pub map_distinct : (l : List ℕ) → ((a b : ℕ) → Memᴰ a l → Memᴰ b l → f a ≡ f b → a ≡ b) → distinct l ≡ true → distinct (map f l) ≡ true
  unfolding distinct
  map_distinct [] once h = refl
  map_distinct (y ∷ l) once h =
      both_true (all_members (differs (f y)) (map f l) other)
      (map_distinct l (λ a b m n. once a b (Memᴰ.tail m) (Memᴰ.tail n))
      (both_right (all_of (differs y) l) (distinct l) h))
    where
      other : (a : ℕ) → Memᴰ a (map f l) → differs (f y) a ≡ true
      other a m =
          let p = Memᴰ.of_map f l m in
          let n : a ≡ f y → ⊥ = λ e.
          let s : p.0 ≡ y = once p.0 y (Memᴰ.tail p.1) (Memᴰ.head refl) (p.2 ∙ e) in
          false≢true
          (sym (not-true (eqb p.0 y) (all_member (differs y) p.0 l (both_left (all_of (differs y) l) (distinct l) h) p.1))
          ∙ eq-eqb p.0 y s) in
          rw (ne_eqb a (f y) n)
