-- Short lists come first, with no filter. What that finds caps the costs to try; where it finds nothing, the stages go on.
use mathlib.Core.Path.{◌≡◌, subst}
use mathlib.Core.List.{[]}
use Prim.Native.Nat.{ℕ, ◌+◌, ◌-◌}
use native.Mathlib.Omega.{arith}
use borrow.Author.Tests.{not-false}
use Rattle.problem.specs.Entries.{entry_gates}
use Rattle.problem.specs.Problems.{Problem}
use Rattle.problem.proofs.Limits.{past_none}
use Rattle.reach_filter.proofs.fill.Sieves.{no_sieve}
use Rattle.walk.specs.node.States.{Posed, Limited, Bounded, Supplied}
use Rattle.solver.specs.deepening.Deepening.{Deepened}
use Rattle.solver.specs.States.{Settled}
use Rattle.solver.proofs.cheaper.Supplies.{supplied}
use Rattle.solver.proofs.Handover.{settled_all, settled_at}
use Rattle.solver.proofs.deepening.Searches.{no_sums}
use Rattle.solver.proofs.solve.Goals as goal
use Rattle.solver.proofs.solve.Goals.{After-fewest-held}

-- what the search for the fewest gates comes to, for each problem that is posed
module _ (k : After-fewest-held) where
  abbrev most : ℕ
  most = k.early-most.result

  fits : Supplied k.args.entries.now k.args.task [] k.no_filter-reach.result
  fits =
      supplied k.args.entries.now k.args.task [] k.no_filter-reach.result k.requires.known (no_sieve (entry_gates k.args.entries.now) k.no_filter-reach.result k.args.task.controls k.args.task.wanted k.args.task.outputs k.args.task.free)

  module _ (P : Problem) (posed : Posed P k.args.task k.args.entries.now) (limited : Limited P k.args.task) where
    bounded : Bounded P k.least_of-least.result
    bounded = k.least_of-least.ensures.bounded P posed

    deepened : Deepened P P.most_cost most k.fewest-held.result
    deepened =
        let e = k.early-most.ensures in
        subst (λ (l : ℕ). Deepened P l most k.fewest-held.result) limited.cost_most
        (k.fewest-held.ensures P record { posed = posed; bounded = bounded } (omega (arith, limited.cost_most)) (omega (arith, limited.gates_most)) (past_none P k.args.task.cost_limit) (no_sums P k.args.task.cost_limit))

-- the search with a filter goes on one gate further
further : (k : After-fewest-held) (P : Problem) → Posed P k.args.task k.args.entries.now
    → Limited P k.args.task → Deepened P P.most_cost (most k + 1 - 1) k.fewest-held.result
further k P posed limited = subst (λ (l : ℕ). Deepened P P.most_cost l k.fewest-held.result) (omega arith) (deepened k P posed limited)

pub fewest-held-requires-clause-supplied : goal.fewest-held-requires-clause-supplied
fewest-held-requires-clause-supplied c = let e = c.early-most.ensures in supplied c.args.entries.now c.args.task [] c.no_filter-reach.result c.requires.known (no_sieve (entry_gates c.args.entries.now) c.no_filter-reach.result c.args.task.controls c.args.task.wanted c.args.task.outputs c.args.task.free)

pub settle-requires-clause-supplied : goal.settle-requires-clause-supplied
settle-requires-clause-supplied c = fits (goal.at.settle-requires-clause-supplied c).After-fewest-held

pub returns-then-limit-most : goal.returns-then-limit-most
returns-then-limit-most c =
    let k = (goal.at.returns-then-limit-most c).After-fewest-held in
    let short = c.if-limit-most.true in
    let e = c.early-most.ensures in λ P posed limited.
    let m : most k ≡ P.most_gates = omega (arith, limited.gates_most) in
    settled_all P c.settle.result (c.settle.ensures P P.most_gates record { posed = posed; bounded = bounded k P posed limited } limited
    (subst (λ (l : ℕ). Deepened P P.most_cost l c.fewest-held.result) m (deepened k P posed limited)))

pub settle-requires-then-near-clause-supplied : goal.settle-requires-then-near-clause-supplied
settle-requires-then-near-clause-supplied c = fits (goal.at.settle-requires-then-near-clause-supplied c).After-fewest-held

pub returns-in_default : goal.returns-in_default
returns-in_default c =
    let k = (goal.at.returns-in_default c).After-fewest-held in λ P posed limited.
    settled_at P c.args.task.gate_limit limited.gates_most c.filtered.result
    (c.filtered.ensures P posed (bounded k P posed limited) limited
    (subst (Deepened P P.most_cost (most k + 1 - 1)) c.in_default.is (further k P posed limited)))

pub returns-then-near : goal.returns-then-near
returns-then-near c =
    let k = (goal.at.returns-then-near c).After-fewest-held in λ P posed limited.
    settled_all P c.settle-then-near.result (c.settle-then-near.ensures P P.most_gates record { posed = posed; bounded = bounded k P posed limited } limited
    (subst (Deepened P P.most_cost (most k)) c.in-Some.is (deepened k P posed limited)))

pub returns : goal.returns
returns c =
    let k = (goal.at.returns c).After-fewest-held in λ P posed limited.
    settled_at P c.args.task.gate_limit limited.gates_most c.filtered-2.result
    (c.filtered-2.ensures P posed (bounded k P posed limited) limited
    (subst (Deepened P P.most_cost (most k + 1 - 1)) c.in-Some.is (further k P posed limited)))
