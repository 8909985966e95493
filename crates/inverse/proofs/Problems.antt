-- Mirrored problems: both are solved or neither, and what they find first agrees in cost, gates and depth.
use mathlib.Core.Path.{◌≡◌, refl, sym, ap, ◌∙◌, subst}
use mathlib.Core.Bool.{true}
use mathlib.Core.Logic.{◌⊎◌, inl, inr, ⊎_elim}
use mathlib.Core.List.{List, reverse, Memᴰ}
use mathlib.Core.Option.{Option, none, some}
use Prim.Native.Nat.{ℕ, ◌≤◌, ◌<◌}
use native.Mathlib.Omega.{arith}
use lib.ListN.{length}
use Rattle.logic.specs.Lists.{Among}
use Rattle.circuit.specs.Measure.{cost, depth}
use Rattle.circuit.proofs.reversal.Lists.{among_reverse}
use Rattle.circuit.proofs.reversal.Runs.{cost_reverse, gates_reverse}
use Rattle.circuit.proofs.reversal.Depth.{depth_reverse}
use Rattle.problem.specs.order.Choices.{Choice, before}
use Rattle.problem.proofs.order.Order.{lex_true}
use Rattle.problem.specs.Problems.{Problem, choice_of, first_good}
use Rattle.problem.specs.Demand.{Solves, Winner}
use Rattle.problem.proofs.Facts.{found_is, none_is}
use Rattle.inverse.specs.Mirror.{Mirrored, Three, three, first_three}

-- in the order of document 01 a comes no later than b, as far as cost, gates and depth decide
abbrev pub NoLater : Three → Three → Type 0
NoLater a b = (a.cost < b.cost) ⊎ ((a.cost ≡ b.cost) × ((a.gates < b.gates) ⊎ ((a.gates ≡ b.gates) × (a.depth ≤ b.depth))))

-- a choice before another is no later
before_three : (a b : Choice) → before a b ≡ true → NoLater (three a) (three b)
unfolding before
before_three a b h =
    ⊎_elim
    (λ (x : a.cost < b.cost). inl x)
    (λ (x : (a.cost ≡ b.cost) × _). inr (
      x.0,
      ⊎_elim
          (λ (y : a.gates < b.gates). inl y)
          (λ (y : (a.gates ≡ b.gates) × _). inr (
            y.0,
            ⊎_elim
                (λ (z : a.depth < b.depth). omega arith)
                (λ (z : (a.depth ≡ b.depth) × _). let e = z.0 in omega arith)
                (lex_true a.depth b.depth _ _ y.1),
          ))
          (lex_true a.gates b.gates _ _ x.1),
    ))
    (lex_true a.cost b.cost _ _ h)

-- of two neither of which is later, all three numbers are the same
each_no_later : (a b : Three) → NoLater a b → NoLater b a → a ≡ b
each_no_later a b (inl x) (inl y) = absurd (omega arith)
each_no_later a b (inl x) (inr y) = absurd (omega (arith, y.0))
each_no_later a b (inr x) (inl y) = absurd (omega (arith, x.0))
each_no_later a b (inr x) (inr y) = by_gates x.1 y.1
  where
    by_gates : (a.gates < b.gates) ⊎ ((a.gates ≡ b.gates) × (a.depth ≤ b.depth))
        → (b.gates < a.gates) ⊎ ((b.gates ≡ a.gates) × (b.depth ≤ a.depth)) → a ≡ b
    by_gates (inl u) (inl v) = absurd (omega arith)
    by_gates (inl u) (inr v) = absurd (omega (arith, v.0))
    by_gates (inr u) (inl v) = absurd (omega (arith, u.0))
    by_gates (inr u) (inr v) =
        let c = x.0 in
        let g = u.0 in
        let d : a.depth ≡ b.depth = omega (arith, u.1, v.1) in
        λ i. record { cost = c i; gates = g i; depth = d i }

pub turned : {P Q : Problem} → Mirrored P Q → Mirrored Q P
turned m = record {
  same_gates = sym m.same_gates;
  same_layouts = sym m.same_layouts;
  same_price = sym m.same_price;
  same_duration = sym m.same_duration;
  same_most_gates = sym m.same_most_gates;
  same_most_cost = sym m.same_most_cost;
  same_most_depth = sym m.same_most_depth;
  forth = m.back;
  back = m.forth;
}

module _ (P Q : Problem) (m : Mirrored P Q) where
  -- the list backwards costs as much in the other problem, and is as deep
  cost_same : (l : List ℕ) → cost Q.price (reverse l) ≡ cost P.price l
  cost_same l = cost_reverse Q.price l ∙ ap (λ (f : ℕ → ℕ). cost f l) (sym m.same_price)

  depth_same : (l : List ℕ) → depth Q.duration (reverse l) ≡ depth P.duration l
  depth_same l = depth_reverse Q.duration l ∙ ap (λ (f : ℕ → ℕ). depth f l) (sym m.same_duration)

  pub three_same : (l : List ℕ) (p : ℕ) → three (choice_of Q (reverse l) p) ≡ three (choice_of P l p)
  unfolding choice_of
  three_same l p =
      let c = cost_same l in
      let g = gates_reverse l in
      let d = depth_same l in
      λ i. record { cost = c i; gates = g i; depth = d i }

  -- what solves the one solves the other backwards
  pub solves_back : (l : List ℕ) (p : ℕ) → Solves P l p → Solves Q (reverse l) p
  solves_back l p s = record {
    admitted = record {
      gates_listed = subst (λ (gs : List ℕ). Among gs (reverse l)) m.same_gates (among_reverse P.gates l s.admitted.gates_listed);
      gates_within =
          subst (λ (n : ℕ). n ≤ Q.most_gates) (sym (gates_reverse l))
          (subst (λ (n : ℕ). length l ≤ n) m.same_most_gates s.admitted.gates_within);
      layout_listed = subst (λ (ps : List ℕ). Memᴰ p ps) m.same_layouts s.admitted.layout_listed;
    };
    realizing = m.forth l p s.admitted s.realizing;
    cost_within =
        subst (λ (n : ℕ). n ≤ Q.most_cost) (sym (cost_same l))
        (subst (λ (n : ℕ). cost P.price l ≤ n) m.same_most_cost s.cost_within);
    depth_within =
        subst (λ (n : ℕ). n ≤ Q.most_depth) (sym (depth_same l))
        (subst (λ (n : ℕ). depth P.duration l ≤ n) m.same_most_depth s.depth_within);
  }

-- a winner is no later than what solves the other problem
module _ (P Q : Problem) (m : Mirrored P Q) where
  same_list : (l : List ℕ) (p : ℕ) (e : List ℕ) (q : ℕ) → e ≡ l → NoLater (three (choice_of P l p)) (three (choice_of P e q))
  unfolding choice_of
  same_list l p e q k = rw k (inr (refl, inr (refl, omega arith)))

  no_later : (l : List ℕ) (p : ℕ) (e : List ℕ) (q : ℕ) → Winner P l p → Solves Q e q → NoLater (three (choice_of P l p)) (three (choice_of Q e q))
  no_later l p e q w s =
      subst (λ (t : Three). NoLater (three (choice_of P l p)) t) (three_same Q P (turned m) e q)
      (⊎_elim
      (λ (k : (reverse e ≡ l) × (q ≡ p)). same_list l p (reverse e) q k.0)
      (λ (k : before (choice_of P l p) (choice_of P (reverse e) q) ≡ true). before_three (choice_of P l p) (choice_of P (reverse e) q) k)
      (w.foremost (reverse e) q (solves_back Q P (turned m) e q s)))

module _ (P Q : Problem) (m : Mirrored P Q) where
  -- both are solved, or neither, and the first of each agree
  pub first_same : first_three (first_good P) ≡ first_three (first_good Q)
  first_same = by_first (first_good P) (first_good Q) refl refl
    where
      by_first : (x y : Option Choice) → first_good P ≡ x → first_good Q ≡ y → first_three x ≡ first_three y
      by_first none none a b = refl
      by_first none (some c) a b =
          let w = (found_is Q c b).0.solution in
          absurd ((none_is P).0 a (reverse c.bytes) c.layout (solves_back Q P (turned m) c.bytes c.layout w))
      by_first (some c) none a b =
          let w = (found_is P c a).0.solution in
          absurd ((none_is Q).0 b (reverse c.bytes) c.layout (solves_back P Q m c.bytes c.layout w))
      by_first (some c) (some d) a b =
          let v = found_is P c a in
          let w = found_is Q d b in
          ap some
          (ap three (sym v.1)
          ∙ each_no_later (three (choice_of P c.bytes c.layout)) (three (choice_of Q d.bytes d.layout))
          (no_later P Q m c.bytes c.layout d.bytes d.layout v.0 w.0.solution)
          (no_later Q P (turned m) d.bytes d.layout c.bytes c.layout w.0 v.0.solution)
          ∙ ap three w.1)
