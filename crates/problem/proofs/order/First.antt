-- What `improve` gives is the first good choice of a list.
use mathlib.Core.Path.{◌≡◌, refl, sym, ap, ◌∙◌}
use mathlib.Core.Bool.{Bool, true, false, false≢true}
use mathlib.Core.List.Memᴰ
use mathlib.Core.List.{List, [], ◌∷◌, ◌++◌, Memᴰ}
use mathlib.Core.Option.{Option, none, some, none-ne-some}
use mathlib.Core.Logic.{◌⊎◌, inl, inr, ⊎_elim, ◌↔◌}
use Rattle.logic.specs.Rules.{pick}
use Rattle.problem.specs.order.Choices.{Choice, before, keep, attempt, improve}
use Rattle.problem.proofs.order.Order.{irreflexive, asymmetric, not_transitive, total}

-- an attempt that leaves what is held: a is not good, or not before it
record Left (good : Choice → Bool) (x : Option Choice) (a : Choice) (y : Option Choice) : Type 0 where
  same : y ≡ x
  not_before : good a ≡ true → (b : Choice) × ((x ≡ some b) × (before a b ≡ false))

-- an attempt that takes a: a is good, and what was held is not before it
record Taken (good : Choice → Bool) (x : Option Choice) (a : Choice) (y : Option Choice) : Type 0 where
  takes : y ≡ some a
  fine : good a ≡ true
  not_later : (b : Choice) → x ≡ some b → before b a ≡ false

-- what `improve` gives was held or is a good member of the list, and nothing held and no good member is before it
record Least (good : Choice → Bool) (x : Option Choice) (l : List Choice) (c : Choice) : Type 0 where
  comes : (x ≡ some c) ⊎ (Memᴰ c l × (good c ≡ true))
  held_after : (b : Choice) → x ≡ some b → before b c ≡ false
  good_after : (a : Choice) → Memᴰ a l → good a ≡ true → before a c ≡ false

module _ (good : Choice → Bool) where
  pub improve_append : (x : Option Choice) (l m : List Choice) → improve good x (l ++ m) ≡ improve good (improve good x l) m
  unfolding improve
  improve_append x [] m = refl
  improve_append x (a ∷ l) m = improve_append (attempt good x a) l m

  pub attempt_not : (x : Option Choice) (a : Choice) → good a ≡ false → attempt good x a ≡ x
  unfolding attempt
  attempt_not x a h = rw h

  pub attempt_after : (a b : Choice) → before a b ≡ false → attempt good (some b) a ≡ some b
  unfolding attempt keep
  attempt_after a b h = rw h (by_good (good a))
    where
      by_good : (t : Bool) → pick t (some b) (some b) ≡ some b
      by_good true = refl
      by_good false = refl

  pub improve_skip : (x : Option Choice) (l : List Choice) → ((a : Choice) → Memᴰ a l → attempt good x a ≡ x) → improve good x l ≡ x
  unfolding improve
  improve_skip x [] h = refl
  improve_skip x (a ∷ l) h = rw (h a (Memᴰ.head refl)) (improve_skip x l (λ b m. h b (Memᴰ.tail m)))

  -- an attempt leaves what is held, or takes a
  attempt_cases : (x : Option Choice) (a : Choice) → Left good x a (attempt good x a) ⊎ Taken good x a (attempt good x a)
  unfolding attempt keep
  attempt_cases none a = by_good (good a) refl
    where
      by_good : (t : Bool) → good a ≡ t → Left good none a (pick t (some a) none) ⊎ Taken good none a (pick t (some a) none)
      by_good true e = inr (record { takes = refl; fine = e; not_later = λ b h. absurd (none-ne-some b h) })
      by_good false e = inl (record { same = refl; not_before = λ h. absurd (false≢true (sym e ∙ h)) })
  attempt_cases (some b) a = by_tests (good a) (before a b) refl refl
    where
      by_tests : (t u : Bool)
          → good a ≡ t
          → before a b ≡ u
          → Left good (some b) a (pick t (pick u (some a) (some b)) (some b)) ⊎ Taken good (some b) a (pick t (pick u (some a) (some b)) (some b))
      by_tests false u e f = inl (record { same = refl; not_before = λ h. absurd (false≢true (sym e ∙ h)) })
      by_tests true true e f = inr (record { takes = refl; fine = e; not_later = λ c h. let p : b ≡ c = cc in rw (← p) (asymmetric a b f) })
      by_tests true false e f = inl (record { same = refl; not_before = λ h. (b, (refl, f)) })

  -- a choice that is no use once is no use later, when something earlier may be held
  left_once : (x : Option Choice) (a b : Choice) → attempt good x a ≡ x → attempt good (attempt good x b) a ≡ attempt good x b
  left_once x a b e = by_attempt (attempt_cases x b) (good a) refl
    where
      behind : Left good x a (attempt good x a) ⊎ Taken good x a (attempt good x a) → good a ≡ true → (d : Choice) × ((x ≡ some d) × (before a d ≡ false))
      behind (inl s) g = s.not_before g
      behind (inr s) g = (a, (sym e ∙ s.takes, irreflexive a))

      by_attempt : Left good x b (attempt good x b) ⊎ Taken good x b (attempt good x b) → (t : Bool) → good a ≡ t
          → attempt good (attempt good x b) a ≡ attempt good x b
      by_attempt (inl s) t g = rw s.same e
      by_attempt (inr s) true g =
          let u = behind (attempt_cases x a) g in
          rw s.takes (attempt_after a b (not_transitive b u.0 a (s.not_later u.0 u.1.0) u.1.1))
      by_attempt (inr s) false g = attempt_not (attempt good x b) a g

  pub left_later : (x : Option Choice) (a : Choice) (l : List Choice) → attempt good x a ≡ x → attempt good (improve good x l) a ≡ improve good x l
  unfolding improve
  left_later x a [] e = e
  left_later x a (b ∷ l) e = left_later (attempt good x b) a l (left_once x a b e)

  least : (x : Option Choice) (l : List Choice) (c : Choice) → improve good x l ≡ some c → Least good x l c
  unfolding improve
  least x [] c h =
      record {
        comes = inl h;
        held_after = λ b e. let p : b ≡ c = cc in rw p (irreflexive c);
        good_after = λ a m g. absurd (Memᴰ.not-nil m);
      }
  least x (a ∷ l) c h = by_attempt (least (attempt good x a) l c h) (attempt_cases x a)
    where
      by_attempt : Least good (attempt good x a) l c → Left good x a (attempt good x a) ⊎ Taken good x a (attempt good x a) → Least good x (a ∷ l) c
      by_attempt r (inl s) =
          record {
            comes =
                ⊎_elim
                (λ (e : attempt good x a ≡ some c). inl (sym s.same ∙ e))
                (λ (m : Memᴰ c l × (good c ≡ true)). inr (Memᴰ.tail m.0, m.1))
                r.comes;
            held_after = λ b e. r.held_after b (s.same ∙ e);
            good_after = λ b m g.
                ⊎_elim
                (λ (e : b ≡ a).
                let u = s.not_before (ap good (sym e) ∙ g) in
                rw e (not_transitive c u.0 a (r.held_after u.0 (s.same ∙ u.1.0)) u.1.1))
                (λ (n : Memᴰ b l). r.good_after b n g)
                (Memᴰ.cases_cons m);
          }
      by_attempt r (inr s) =
          record {
            comes =
                ⊎_elim
                (λ (e : attempt good x a ≡ some c).
                let u : c ≡ a = cc in
                inr (Memᴰ.head u, ap good u ∙ s.fine))
                (λ (m : Memᴰ c l × (good c ≡ true)). inr (Memᴰ.tail m.0, m.1))
                r.comes;
            held_after = λ b e. not_transitive c a b (r.held_after a s.takes) (s.not_later b e);
            good_after = λ b m g.
                ⊎_elim
                (λ (e : b ≡ a). rw e (r.held_after a s.takes))
                (λ (n : Memᴰ b l). r.good_after b n g)
                (Memᴰ.cases_cons m);
          }

  pub found : (l : List Choice) (c : Choice)
      → improve good none l ≡ some c
      → Memᴰ c l × ((good c ≡ true) × ((a : Choice) → Memᴰ a l → good a ≡ true → (a ≡ c) ⊎ (before c a ≡ true)))
  found l c h =
      let r = least none l c h in
      let m = member r.comes in
      (m.0, (m.1, λ a n g. by_order a (r.good_after a n g) (before c a) refl))
    where
      member : (none ≡ some c) ⊎ (Memᴰ c l × (good c ≡ true)) → Memᴰ c l × (good c ≡ true)
      member (inl e) = absurd (none-ne-some c e)
      member (inr m) = m

      by_order : (a : Choice) → before a c ≡ false → (t : Bool) → before c a ≡ t → (a ≡ c) ⊎ (before c a ≡ true)
      by_order a p true q = inr q
      by_order a p false q = inl (total a c p q)

  -- once a choice is held, one stays held
  pub stays : (b : Choice) (l : List Choice) → (c : Choice) × (improve good (some b) l ≡ some c)
  unfolding improve
  stays b [] = (b, refl)
  stays b (a ∷ l) =
      ⊎_elim
      (λ (s : Left good (some b) a (attempt good (some b) a)). rw s.same (stays b l))
      (λ (s : Taken good (some b) a (attempt good (some b) a)). rw s.takes (stays a l))
      (attempt_cases (some b) a)

  not_good : (a : Choice) → Left good none a (attempt good none a) → good a ≡ false
  not_good a s = by_good (good a) refl
    where
      by_good : (t : Bool) → good a ≡ t → good a ≡ false
      by_good true e = let u = s.not_before e in absurd (none-ne-some u.0 u.1.0)
      by_good false e = e

  none_good : (l : List Choice) → improve good none l ≡ none → (a : Choice) → Memᴰ a l → good a ≡ false
  unfolding improve
  none_good [] h a m = absurd (Memᴰ.not-nil m)
  none_good (b ∷ l) h a m =
      ⊎_elim
      (λ (s : Left good none b (attempt good none b)).
      ⊎_elim
      (λ (e : a ≡ b). ap good e ∙ not_good b s)
      (λ (n : Memᴰ a l). none_good l (rw s.same at h) a n)
      (Memᴰ.cases_cons m))
      (λ (s : Taken good none b (attempt good none b)).
      let r = stays b l in
      absurd (none-ne-some r.0 (sym (rw s.takes at h) ∙ r.1)))
      (attempt_cases none b)

  pub nothing : (l : List Choice) → (improve good none l ≡ none) ↔ ((a : Choice) → Memᴰ a l → good a ≡ false)
  nothing l = (none_good l, λ h. improve_skip none l (λ a m. attempt_not none a (h a m)))

  -- what a whole list leaves, each choice of it leaves
  pub left_each : (x : Option Choice) (l : List Choice) → improve good x l ≡ x → (a : Choice) → Memᴰ a l → attempt good x a ≡ x
  left_each none l e a m = attempt_not none a (none_good l e a m)
  left_each (some c) l e a m = by_good (good a) refl
    where
      by_good : (t : Bool) → good a ≡ t → attempt good (some c) a ≡ some c
      by_good true g = attempt_after a c ((least (some c) l c e).good_after a m g)
      by_good false g = attempt_not (some c) a g
