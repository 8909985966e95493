-- The list of all choices by prefix: what a loop over the gates has tried so far, and which choices are in the list.
use mathlib.Core.Path.{◌≡◌, refl, sym, ap}
use mathlib.Core.Bool.{Bool}
use mathlib.Core.List.{List, [], ◌∷◌, ◌++◌, map, flat_map, append_assoc, append-nil, Memᴰ}
use mathlib.Core.Option.{Option}
use mathlib.Core.Logic.{⊎_elim}
use Prim.Native.Nat.{ℕ, zero, suc, ◌+◌, ◌-◌, ◌<◌, ◌≤◌}
use native.Mathlib.Numerals.{add-one}
use native.Mathlib.Nat.{not-suc-le-zero}
use native.Mathlib.Omega.{arith}
use lib.ListN.{length, take, get_or}
use lib.Seq.{take-suc, take-length}
use Rattle.logic.specs.Lists.{Among}
use Rattle.logic.proofs.Members.{among_nil, among_cons, among_head, among_tail}
use Rattle.problem.specs.order.Choices.{Choice, improve, under, below, lists}
use Rattle.problem.proofs.order.First.{improve_append}

module _ {A B : Type 0} (f : A → List B) where
  pub flat_map_snoc : (l : List A) (a : A) → flat_map f (l ++ (a ∷ [])) ≡ flat_map f l ++ f a
  unfolding flat_map
  flat_map_snoc [] a = append-nil (f a)
  flat_map_snoc (x ∷ l) a = rw (flat_map_snoc l a) (sym (append_assoc (f x) (flat_map f l) (f a)))

  pub flat_map_has : {a : A} {b : B} {l : List A} → Memᴰ a l → Memᴰ b (f a) → Memᴰ b (flat_map f l)
  unfolding flat_map
  flat_map_has (Memᴰ.head {xs = xs} e) m = mathlib.Core.List.Memᴰ.append_left (flat_map f xs) (rw e at m)
  flat_map_has (Memᴰ.tail {x = x} n) m = mathlib.Core.List.Memᴰ.append_right (f x) (flat_map_has n m)

  pub flat_map_is : (b : B) (l : List A) → Memᴰ b (flat_map f l) → (a : A) × (Memᴰ a l × Memᴰ b (f a))
  unfolding flat_map
  flat_map_is b [] m = absurd (mathlib.Core.List.Memᴰ.not-nil m)
  flat_map_is b (x ∷ l) m =
      ⊎_elim
      (λ (n : Memᴰ b (f x)). (x, (Memᴰ.head refl, n)))
      (λ (n : Memᴰ b (flat_map f l)). let r = flat_map_is b l n in (r.0, (Memᴰ.tail r.1.0, r.1.1)))
      (mathlib.Core.List.Memᴰ.append_cases (f x) m)

module _ (here : List ℕ → List Choice) (gates l : List ℕ) (k : ℕ) where
  pub below_more : (i : ℕ) → i < length gates → below here gates l k (i + 1) ≡ below here gates l k i ++ under here gates (l ++ (get_or gates i 0 ∷ [])) k
  below_more i h =
      rw (add-one, take-suc gates i 0 h) (flat_map_snoc (λ (g : ℕ). under here gates (l ++ (g ∷ [])) k) (take i gates) (get_or gates i 0))

  pub under_zero : k ≡ 0 → under here gates l k ≡ here l
  unfolding under
  under_zero h = rw h

pub under_suc : (here : List ℕ → List Choice) (gates l : List ℕ) (k : ℕ) → 0 < k → under here gates l k ≡ here l ++ below here gates l (k - 1) (length gates)
unfolding under
under_suc here gates l zero h = absurd (omega arith)
under_suc here gates l (suc k) h = let e : suc k - 1 ≡ k = omega arith in rw (e, take-length)

-- a loop over the gates: x₀ is held before it, x before its turn i, and y after that turn
pub turn : (here : List ℕ → List Choice) (gates l : List ℕ) (k i : ℕ) (good : Choice → Bool) (x₀ x y : Option Choice)
    → i < length gates
    → x ≡ improve good x₀ (below here gates l k i)
    → y ≡ improve good x (under here gates (l ++ (get_or gates i 0 ∷ [])) k)
    → y ≡ improve good x₀ (below here gates l k (i + 1))
turn here gates l k i good x₀ x y h hx hy = rw (below_more here gates l k i h, improve_append, ← hx) hy

-- one list and then the loop: x is held before, x₀ after the list's own choices, and y after the loop
pub node : (here : List ℕ → List Choice) (gates l : List ℕ) (k : ℕ) (good : Choice → Bool) (x x₀ y : Option Choice)
    → 0 < k
    → x₀ ≡ improve good x (here l)
    → y ≡ improve good x₀ (below here gates l (k - 1) (length gates))
    → y ≡ improve good x (under here gates l k)
node here gates l k good x x₀ y h hx hy = rw (under_suc here gates l k h, improve_append, ← hx) hy

-- the choices of `under` are those of the lists that go on by at most k of the gates
pub under_is : (here : List ℕ → List Choice) (gates l : List ℕ) (k : ℕ) (a : Choice)
    → Memᴰ a (under here gates l k)
    → (e : List ℕ) × (Among gates e × ((length e ≤ k) × Memᴰ a (here (l ++ e))))
unfolding under
under_is here gates l zero a m = ([], (among_nil, (omega arith, rw append-nil m)))
under_is here gates l (suc k) a m =
    ⊎_elim
    (λ (n : Memᴰ a (here l)). ([], (among_nil, (omega arith, rw append-nil n))))
    (λ (n : Memᴰ a (flat_map (λ (g : ℕ). under here gates (l ++ (g ∷ [])) k) gates)).
    let r = flat_map_is (λ (g : ℕ). under here gates (l ++ (g ∷ [])) k) a gates n in
    let s = under_is here gates (l ++ (r.0 ∷ [])) k a r.1.1 in
    (r.0 ∷ s.0, (among_cons r.1.0 s.1.0, (omega arith, rw append_assoc at s.1.1.1))))
    (mathlib.Core.List.Memᴰ.append_cases (here l) m)

pub under_has : (here : List ℕ → List Choice) (gates l : List ℕ) (k : ℕ) (a : Choice) (e : List ℕ)
    → Among gates e
    → length e ≤ k
    → Memᴰ a (here (l ++ e))
    → Memᴰ a (under here gates l k)
unfolding under
under_has here gates l zero a [] w n m = rw append-nil at m
under_has here gates l zero a (g ∷ e) w n m = absurd (not-suc-le-zero n)
under_has here gates l (suc k) a [] w n m = mathlib.Core.List.Memᴰ.append_left _ (rw append-nil at m)
under_has here gates l (suc k) a (g ∷ e) w n m =
    mathlib.Core.List.Memᴰ.append_right
    (here l)
    (flat_map_has
    (λ (h : ℕ). under here gates (l ++ (h ∷ [])) k)
    (w g (Memᴰ.head refl))
    (under_has here gates (l ++ (g ∷ [])) k a e (among_tail w) (omega arith) (rw append_assoc m)))

-- the lists of k gates are those of that length
pub lists_is : (gates : List ℕ) (k : ℕ) (l : List ℕ) → Memᴰ l (lists gates k) → Among gates l × (length l ≡ k)
unfolding lists
lists_is gates zero l m = rw (mathlib.Core.List.Memᴰ.eq_of_singleton m) (among_nil, refl)
lists_is gates (suc k) l m =
    let f = flat_map_is (λ (g : ℕ). map (λ (t : List ℕ). g ∷ t) (lists gates k)) l gates m in
    let t = mathlib.Core.List.Memᴰ.of_map (λ (t : List ℕ). f.0 ∷ t) (lists gates k) f.1.1 in
    let r = lists_is gates k t.0 t.1 in
    rw (← t.2) (among_cons f.1.0 r.0, ap suc r.1)

pub lists_has : (gates l : List ℕ) → Among gates l → Memᴰ l (lists gates (length l))
unfolding lists
lists_has gates [] a = Memᴰ.head refl
lists_has gates (g ∷ l) a =
    flat_map_has (λ (g : ℕ). map (λ (t : List ℕ). g ∷ t) (lists gates (length l))) (among_head a)
    (mathlib.Core.List.Memᴰ.map (λ (t : List ℕ). g ∷ t) (lists_has gates l (among_tail a)))
