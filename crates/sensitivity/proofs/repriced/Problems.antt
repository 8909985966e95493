-- Two problems that differ in the price of one kind of gate: they have the same solutions, and the least cost of the dearer one is above
-- the other's by at most what the other's first list costs more at the higher price.
use mathlib.Core.Path.{◌≡◌, sym, ap, ◌∙◌, subst}
use mathlib.Core.Bool.{Bool}
use mathlib.Core.Logic.{◌↔◌}
use mathlib.Core.List.{List, [], ◌∷◌, Memᴰ}
use mathlib.Core.Option.{none, some}
use Prim.Native.Nat.{ℕ, ◌+◌, ◌*◌, ◌≤◌}
use native.Mathlib.Nat.{mul-add, mul-zero}
use native.Mathlib.Omega.{arith}
use lib.ListN.{length}
use Rattle.logic.specs.Rules.{bit}
use Rattle.logic.specs.Lists.{total, Among}
use Rattle.circuit.specs.Measure.{cost, depth}
use Rattle.problem.specs.order.Choices.{Choice}
use Rattle.problem.specs.Problems.{Problem, choice_of, first_good}
use Rattle.problem.specs.Demand.{Solves, Winner, Roomy}
use Rattle.problem.proofs.Facts.{found_is, none_is}
use Rattle.sensitivity.specs.repriced.Demand.{kind_count, AlikeButPrices, Raised}

pub turned : {P Q : Problem} → AlikeButPrices P Q → AlikeButPrices Q P
turned a = record {
  same_gates = sym a.same_gates;
  same_layouts = sym a.same_layouts;
  same_duration = sym a.same_duration;
  same_realized = sym a.same_realized;
  same_most_gates = sym a.same_most_gates;
  same_most_depth = sym a.same_most_depth;
}

-- what solves one solves the other, prices being no hindrance
pub solves_too : (P Q : Problem) → AlikeButPrices P Q → Roomy Q → (l : List ℕ) (p : ℕ) → Solves P l p → Solves Q l p
solves_too P Q a room l p s =
    let few : length l ≤ Q.most_gates = subst (λ (n : ℕ). length l ≤ n) a.same_most_gates s.admitted.gates_within in
    record {
      admitted = record {
        gates_listed = subst (λ (gs : List ℕ). Among gs l) a.same_gates s.admitted.gates_listed;
        gates_within = few;
        layout_listed = subst (λ (ps : List ℕ). Memᴰ p ps) a.same_layouts s.admitted.layout_listed;
      };
      realizing = sym (ap (λ (f : ℕ → List ℕ → Bool). f p l) a.same_realized) ∙ s.realizing;
      cost_within = room l few;
      depth_within =
          subst (λ (n : ℕ). depth Q.duration l ≤ n) a.same_most_depth
          (subst (λ (f : ℕ → ℕ). depth f l ≤ P.most_depth) a.same_duration s.depth_within);
    }

-- both are solved, or neither
pub none_both : (P Q : Problem) → AlikeButPrices P Q → Roomy P → Roomy Q → (first_good P ≡ none) ↔ (first_good Q ≡ none)
none_both P Q a old new = (
  (λ h. (none_is Q).1 (λ l p s. (none_is P).0 h l p (solves_too Q P (turned a) old l p s))),
  (λ h. (none_is P).1 (λ l p s. (none_is Q).0 h l p (solves_too P Q a new l p s))),
)

sums : (a b p x t c : ℕ) → a ≡ p + x → b ≡ t + c → a + b ≡ p + t + (x + c)
sums a b p x t c h k = omega arith

module _ (P Q : Problem) (kind : ℕ → Bool) (d : ℕ) (raised : Raised P Q kind d) where
  -- a list costs d more for each gate of the kind
  pub cost_raised : (l : List ℕ) → cost Q.price l ≡ cost P.price l + d * kind_count kind l
  unfolding total
  cost_raised [] = ap (λ (n : ℕ). 0 + n) (sym (mul-zero d))
  cost_raised (g ∷ l) =
      sums (Q.price g) (cost Q.price l) (P.price g) (d * bit (kind g)) (cost P.price l) (d * kind_count kind l) (raised g) (cost_raised l)
      ∙ ap (λ (n : ℕ). P.price g + cost P.price l + n) (sym (mul-add d (bit (kind g)) (kind_count kind l)))

  module _ (a : AlikeButPrices P Q) (old : Roomy P) (new : Roomy Q) where
    -- the least cost moves up by 0 to d times the gates of that kind of the first list at the lower price
    pub winners_apart : (l : List ℕ) (p : ℕ) (e : List ℕ) (q : ℕ) → Winner P l p → Winner Q e q
        → (cost P.price l ≤ cost Q.price e) × (cost Q.price e ≤ cost P.price l + d * kind_count kind l)
    winners_apart l p e q w v =
        let low = w.cheapest e q (solves_too Q P (turned a) old e q v.solution) in
        let high = v.cheapest l p (solves_too P Q a new l p w.solution) in (
          above (cost P.price l) (cost Q.price e) (cost P.price e) (d * kind_count kind e) low (cost_raised e),
          subst (λ (n : ℕ). cost Q.price e ≤ n) (cost_raised l) high,
        )
      where
        above : (x y z c : ℕ) → x ≤ z → y ≡ z + c → x ≤ y
        above x y z c h k = omega arith

    -- the same for the first good choices
    pub first_apart : (b c : Choice) → first_good P ≡ some b → first_good Q ≡ some c
        → (b.cost ≤ c.cost) × (c.cost ≤ b.cost + d * kind_count kind b.bytes)
    unfolding choice_of
    first_apart b c h k =
        let w = found_is P b h in
        let v = found_is Q c k in
        let x = ap (λ (o : Choice). o.cost) w.1 in
        let y = ap (λ (o : Choice). o.cost) v.1 in
        let r = winners_apart b.bytes b.layout c.bytes c.layout w.0 v.0 in
        subst (λ (n : ℕ). (n ≤ c.cost) × (c.cost ≤ n + d * kind_count kind b.bytes)) x
        (subst (λ (n : ℕ). (cost P.price b.bytes ≤ n) × (n ≤ cost P.price b.bytes + d * kind_count kind b.bytes)) y r)
