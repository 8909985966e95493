-- Iterative deepening: what a search under limits rules out if it finds nothing, and why the first one that finds something has the answer.
use mathlib.Core.Path.{◌≡◌, refl, sym, ap, ◌∙◌}
use mathlib.Core.Bool.{Bool, true, false}
use mathlib.Core.List.{[], Memᴰ}
use mathlib.Core.Option.{none, some}
use Rattle.std.specs.Prelude.{Some}
use Prim.Native.Nat.{ℕ, ◌+◌, ◌≤◌}
use native.Mathlib.Omega.{arith}
use borrow.Author.Tests.{leb-true, leb-false}
use lib.Dec.{leb}
use Rattle.logic.proofs.Chain.{not_so}
use Rattle.problem.specs.declared.order.Best.{Best}
use Rattle.problem.specs.order.Choices.{Choice, under}
use Rattle.problem.specs.order.View.{choice, view}
use Rattle.problem.proofs.order.First.{found, nothing}
use Rattle.problem.proofs.order.Order.{by_cost}
use Rattle.problem.proofs.order.Left.{by_fewer}
use Rattle.problem.proofs.order.Deepening.{exhausted, settled}
use Rattle.problem.specs.Problems.{Problem, here, choices, within, good, first_good}
use Rattle.problem.specs.Inner.{looked_under, Past, Dearer, Shortest}
use Rattle.problem.proofs.Listed.{listed, unlisted, gates_are, within_parts, within_joined}

-- a choice that is good under one limit on cost is so under every other that it keeps
relimited : (P : Problem) (c : Choice) (limit other : ℕ) → within P limit c ≡ true → c.cost ≤ other → within P other c ≡ true
relimited P c limit other h k = let w = within_parts P limit c h in within_joined P other c w.0 k w.1.1

-- a choice of few gates is one of every list of choices that goes so far
again : (P : Problem) (g h : ℕ) (a : Choice) → Memᴰ a (under (here P) P.gates [] g) → a.gates ≤ h → Memᴰ a (under (here P) P.gates [] h)
again P g h a m k =
    let i = listed P [] g a m in
    rw i.same at (unlisted P [] h i.more i.layout i.among (omega (arith, gates_are P g a i)) i.laid)

-- a search under the limits sees what is good within them, and nothing else
module _ (P : Problem) (limit g : ℕ) (hl : limit ≤ P.most_cost) (hg : g ≤ P.most_gates) where
  out : (a : Choice) → Memᴰ a (under (here P) P.gates [] g) → within P limit a ≡ true
      → Memᴰ a (choices P) × ((good P a ≡ true) × ((a.cost ≤ limit) × (a.gates ≤ g)))
  out a m h =
      let i = listed P [] g a m in
      let e = gates_are P g a i in
      let k = i.short in
      let c = (within_parts P limit a h).1.0 in
      (again P g P.most_gates a m (omega arith), (relimited P a limit P.most_cost h (omega arith), (c, omega arith)))

  back : (a : Choice) → Memᴰ a (choices P) → good P a ≡ true → a.cost ≤ limit → a.gates ≤ g
      → Memᴰ a (under (here P) P.gates [] g) × (within P limit a ≡ true)
  back a m h c k = (again P P.most_gates g a m k, relimited P a P.most_cost limit h c)

  -- it failed: within the limit on cost there are more gates
  pub past_next : looked_under P limit [] g none ≡ none → Past P limit (g + 1)
  unfolding looked_under
  past_next e = record {
    gates_least = λ a m h c.
        let k = exhausted (good P) (within P limit) (choices P) (under (here P) P.gates [] g) (λ x. x.cost) (λ x. x.gates) limit g by_cost by_fewer out back e a m h c in
        omega arith;
  }

  fits : (c : Choice) → some c ≡ looked_under P limit [] g none → (Memᴰ c (choices P) × (good P c ≡ true)) × ((c.cost ≤ limit) × (c.gates ≤ g))
  unfolding looked_under
  fits c e =
      let t = found (within P limit) (under (here P) P.gates [] g) c (sym e) in
      let o = out c t.0 t.1.0 in
      ((o.0, o.1.0), o.1.1)

  -- it found c, and nothing good is cheaper
  answer : (c : Choice) → some c ≡ looked_under P limit [] g none → Dearer P c.cost → some c ≡ first_good P
  unfolding looked_under first_good
  answer c e d =
      sym (settled (good P) (within P limit) (choices P) (under (here P) P.gates [] g) (λ x. x.cost) (λ x. x.gates) limit g by_cost by_fewer out back c (sym e) d.cost_least)

module _ (P : Problem) where
  pub past_none : (limit : ℕ) → Past P limit 0
  past_none limit = record { gates_least = λ a m h c. omega arith }

  pub past_below : (limit lower g : ℕ) → lower ≤ limit → Past P limit g → Past P lower g
  past_below limit lower g k past = record { gates_least = λ a m h c. past.gates_least a m h (omega arith) }

  -- a search found something, with the fewest gates: any choice, of any length
  pub shortest_choice : (limit g : ℕ) (d : Choice) → limit ≤ P.most_cost → g ≤ P.most_gates
      → some d ≡ looked_under P limit [] g none → Past P limit g → Shortest P limit (some d) d.gates
  shortest_choice limit g d hl hg e past =
      let o = fits P limit g hl hg d e in
      let n = past.gates_least d o.0.0 o.0.1 o.1.0 in
      let k = o.1.1 in
      let q : g ≡ d.gates = omega arith in
      record { finds = e ∙ ap (λ (k : ℕ). looked_under P limit [] k none) q; few = rw (← q) hg; past = rw (← q) past }

  -- the same of what the code holds
  pub shortest : (limit g : ℕ) (b : Best) → limit ≤ P.most_cost → g ≤ P.most_gates
      → view (Some b) ≡ looked_under P limit [] g none → Past P limit g → Shortest P limit (view (Some b)) b.len
  unfolding view choice
  shortest limit g b hl hg e past = shortest_choice limit g (choice b) hl hg e past

  -- no search finds anything
  pub never : Past P P.most_cost (P.most_gates + 1) → first_good P ≡ none
  unfolding first_good
  never past = (nothing (good P) (choices P)).1 λ a m. not_so (good P a) (λ h.
      let i = listed P [] P.most_gates a m in
      omega (arith, past.gates_least a m h (within_parts P P.most_cost a h).1.0, gates_are P P.most_gates a i, i.short))

  module _ (limit : ℕ) (d : Choice) (hl : limit ≤ P.most_cost) (first : Shortest P limit (some d) d.gates) where
    -- what was found, of any length, is the answer, once nothing good is cheaper
    pub final_choice : (c : ℕ) → Dearer P c → d.cost ≤ c → some d ≡ first_good P
    final_choice c dear k =
        answer P limit d.gates hl first.few d first.finds (record { cost_least = λ a m h. omega (arith, dear.cost_least a m h) })

    -- it costs no more than the limit
    pub held_cost : d.cost ≤ limit
    held_cost = (fits P limit d.gates hl first.few d first.finds).1.0

  -- the same of what the code holds
  module _ (limit : ℕ) (b : Best) (hl : limit ≤ P.most_cost) (first : Shortest P limit (view (Some b)) b.len) where
    pub final : (c : ℕ) → Dearer P c → b.cost ≤ c → view (Some b) ≡ first_good P
    unfolding view choice
    final = final_choice limit (choice b) hl first

    pub found_cost : b.cost ≤ limit
    unfolding view choice
    found_cost = held_cost limit (choice b) hl first

  -- nothing good costs at most c
  pub dearer : (c : ℕ) → ((a : Choice) → Memᴰ a (choices P) → good P a ≡ true → a.cost ≤ c → ⊥) → Dearer P (c + 1)
  dearer c f = record { cost_least = λ a m h. by_cost_of a m h (leb a.cost c) refl }
    where
      by_cost_of : (a : Choice) → Memᴰ a (choices P) → good P a ≡ true → (t : Bool) → leb a.cost c ≡ t → c + 1 ≤ a.cost
      by_cost_of a m h true q = absurd (f a m h (leb-true a.cost c q))
      by_cost_of a m h false q = let k = leb-false a.cost c q in omega arith
