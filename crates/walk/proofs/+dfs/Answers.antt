-- A gate is pruned by its tests, or entered by the recursive call; in each case the incumbent of the next turn is the first of the one before
-- and the lists that go on by the gate.
use mathlib.Core.Path.{◌≡◌, refl, sym, ap, ◌∙◌, subst}
use mathlib.Core.Logic.{inl, inr, ⊎_elim}
use mathlib.Core.List.{List, ◌++◌, flat_map}
use mathlib.Core.Option.{Option}
use Prim.Native.Nat.{ℕ, ◌+◌, ◌-◌, ◌≤◌, ◌<◌}
use native.Mathlib.Omega.{arith}
use borrow.Author.Tests.{ltb-true}
use lib.ListN.{length, get_or}
use Rattle.logic.proofs.Chain.{either_cases}
use Rattle.gate.specs.Gates.{target_of}
use Rattle.problem.specs.order.Choices.{Choice, improve}
use Rattle.problem.specs.order.View.{view}
use Rattle.problem.proofs.order.First.{improve_append}
use Rattle.problem.proofs.order.Left.{viewed_is}
use Rattle.problem.specs.Problems.{Problem, here, within}
use Rattle.problem.specs.Inner.{Enough}
use Rattle.problem.proofs.Skips.{enough_since}
use Rattle.problem.specs.pruned.Pruned.{branches, tried_under, tried_by}
use Rattle.problem.proofs.pruned.Walk.{spared, by_entering, walk_stop, walk_turn, walk_end}
use Rattle.reach_filter.specs.fill.Sieve.{Sieve}
use Rattle.walk.specs.declared.node.Task.{Task}
use Rattle.walk.specs.declared.node.Node.{Node}
use Rattle.problem.specs.declared.Entry.{Entry}
use Rattle.walk.specs.node.States.{list_of, needless, Given, At, Exact, Lists}
use Rattle.walk.proofs.node.Entries.{entry_lists, entry_place, entry_gate, entry_count}
use Rattle.walk.proofs.node.Nodes.{five_columns}
use Rattle.walk.proofs.node.Pruning.{far, shut, not_worth}
use Rattle.walk.proofs.node.Exactly.{exact_next}
use Rattle.walk.proofs.+dfs.Goals as goal
use Rattle.walk.proofs.+dfs.Goals.{Joined-eligible, then-eligible+then-promising, then-eligible+else-promising, else-eligible}

pub returns-then-impossible : goal.returns-then-impossible
returns-then-impossible t c =
    λ P given at exact.
    sym (spared needless P c.args.setup.task.cost_limit (list_of c.args.tree.node) c.args.tree.remaining (view c.args.best)
    (c.impossible.ensures c.if-impossible.true P (list_of c.args.tree.node) at.paid exact (view c.args.best)))

pub returns-then-either : goal.returns-then-either
returns-then-either t c =
    λ P given at exact.
    far P c.args.setup.task c.args.tree.node given.posed.asks at c.args.setup.task.cost_limit c.args.tree.remaining c.affordable-most.result
    (view c.args.best) (rw (viewed_is c.args.best) at (c.affordable-most.ensures.enough P given.bounded at))
    (⊎_elim (λ h. inl (omega (arith, ltb-true c.affordable-most.result c.plan_of-plan.result.lost h, c.plan_of-plan.ensures.lost_value)))
    (λ h. inr (ltb-true _ _ h)) (either_cases _ _ (sym c.either.ensures ∙ c.if-either.true)))

pub returns-then-most-eq0 : goal.returns-then-most-eq0
returns-then-most-eq0 t c =
    λ P given at exact.
    walk_stop needless P c.args.setup.task.cost_limit (list_of c.args.tree.node) c.args.tree.remaining c.affordable-most.result
    (view c.args.best) (view c.consider_met-b.result) (rw (viewed_is c.args.best) at (c.affordable-most.ensures.enough P given.bounded at))
    c.if-most-eq0.true
    (c.consider_met-b.ensures P given.posed.asks at)

pub loop-entry-init : goal.loop-entry-init
unfolding improve flat_map
loop-entry-init t c =
    let z = c.if-most-eq0.false in
    (omega arith, λ P given at exact. refl)

-- what is known in a turn of the loop
module _ (t : ℕ) (c : Joined-eligible t) where
  abbrev task : Task
  task = c.args.setup.task

  abbrev node : Node
  node = c.args.tree.node

  abbrev limit : ℕ
  limit = task.cost_limit

  abbrev remaining : ℕ
  remaining = c.args.tree.remaining

  abbrev most : ℕ
  most = c.affordable-most.result

  abbrev entry : Entry
  entry = get_or c.args.entries.now c.loop-entry.entry-index (record { gate = 0; price = 0; duration = 0 })

  index : c.loop-entry.entry-index < length c.args.entries.now
  index = c.loop-entry-test.true

  some : 1 ≤ most
  some = c.loop-entry.invariant.0

  some_left : 1 ≤ remaining
  some_left = let a = c.affordable-most.ensures.upper_bound in let m = some in omega arith

  tried_target : target_of entry.gate < 5
  tried_target = c.requires.supplied.known c.loop-entry.entry-index _ index

  module _ (P : Problem) (given : Given P c.args.setup c.args.entries.now)
      (at : At P node) (exact : Exact P limit (list_of node) remaining c.args.sums.now) where
    tried_is : Lists P entry
    tried_is = entry_lists P task c.args.entries.now given.posed c.loop-entry.entry-index _ index

    sieve_is : Sieve c.args.bits.now c.args.setup.reach P.gates task.controls task.wanted task.outputs task.free
    sieve_is = subst (λ (gs : List ℕ). Sieve c.args.bits.now c.args.setup.reach gs task.controls task.wanted task.outputs task.free)
        given.posed.listed c.requires.supplied.sieve

    -- the incumbent before the turn comes from the one at the start
    enough : Enough P limit (list_of node) remaining most (view c.loop-entry.b)
    enough =
        enough_since P limit (list_of node) remaining most (view c.args.best)
        (rw (viewed_is c.args.best) at (c.affordable-most.ensures.enough P given.bounded at))
        (view c.loop-entry.b) (here P (list_of node) ++ branches needless (here P) P.gates (list_of node) (remaining - 1) c.loop-entry.entry-index)
        (c.loop-entry.invariant.1 P given at exact
        ∙ ap (λ (x : Option Choice). improve (within P limit) x (branches needless (here P) P.gates (list_of node) (remaining - 1) c.loop-entry.entry-index))
        (c.consider_met-b.ensures P given.posed.asks at)
        ∙ sym (improve_append (within P limit) (view c.args.best) (here P (list_of node)) _))

    -- one gate more, whichever way it went
    turned : (y : Option Choice) → y ≡ tried_by needless P limit (list_of node) (remaining - 1) entry.gate (view c.loop-entry.b)
        → y ≡ improve (within P limit) (view c.consider_met-b.result) (branches needless (here P) P.gates (list_of node) (remaining - 1) (c.loop-entry.entry-index + 1))
    turned y e =
        walk_turn needless P limit (list_of node) (remaining - 1) c.loop-entry.entry-index (view c.consider_met-b.result) (view c.loop-entry.b) y
        (entry_place P task c.args.entries.now given.posed c.loop-entry.entry-index index) (c.loop-entry.invariant.1 P given at exact)
        (e ∙ ap (λ (g : ℕ). tried_by needless P limit (list_of node) (remaining - 1) g (view c.loop-entry.b))
        (sym (entry_gate P task c.args.entries.now given.posed c.loop-entry.entry-index _ index)))

  -- what the turn comes to, by each of its three ways
  turn : (P : Problem) → Given P c.args.setup c.args.entries.now → At P node
      → Exact P limit (list_of node) remaining c.args.sums.now
      → view c.if-eligible.b ≡ tried_by needless P limit (list_of node) (remaining - 1) entry.gate (view c.loop-entry.b)
  turn =
      elim c.if-eligible.branch [
        | then-eligible+then-promising w ↦ (
            λ P given at exact.
            let f = w.advance.ensures.follows P given.posed.asks at (tried_is P given at exact) c.table_of-table.ensures in
            let x = exact_next P limit (list_of node) remaining c.args.sums.now exact entry.gate (tried_is P given at exact).listed some_left in
            ap view w.b-is
            ∙ w.dfs-b.ensures P given f.at
            (subst (λ (l : List ℕ). Exact P limit l (remaining - 1) c.args.sums.now) (sym f.longer) x)
            ∙ ap (λ (l : List ℕ). tried_under needless P limit l (remaining - 1) (view c.loop-entry.b)) f.longer
            ∙ by_entering needless P limit (list_of node) (remaining - 1) entry.gate (view c.loop-entry.b)
            (w.promising.ensures.gate_value P given.posed.asks at (tried_is P given at exact) c.table_of-table.ensures w.if-promising.true)
            )
        | then-eligible+else-promising w ↦ (
            λ P given at exact.
            ap view w.b-is
            ∙ rw (viewed_is c.loop-entry.b) at
            (w.promising.ensures.passed P remaining given.posed.asks at (tried_is P given at exact) c.table_of-table.ensures some_left
            (rw (viewed_is c.loop-entry.b) (enough P given at exact)) (sieve_is P given at exact) w.if-promising.false)
            )
        | else-eligible w ↦ (
            λ P given at exact.
            ap view w.b-is
            ∙ ⊎_elim
            (λ z.
            shut P task node given.posed.asks at limit entry.gate remaining most (view c.loop-entry.b)
            (tried_is P given at exact).listed some_left some (enough P given at exact)
            c.args.bits.now c.args.setup.reach (sieve_is P given at exact) c.open_wires-wires.result c.open_wires-wires.ensures tried_target z)
            (λ z.
            not_worth P task node given.posed.asks at limit entry.gate remaining most (view c.loop-entry.b)
            (tried_is P given at exact).listed some_left some (enough P given at exact) z)
            (c.eligible.ensures w.if-eligible.false task.controls task.wanted node.columns given.posed.asks.fair.few
            (given.posed.asks.kinds entry.gate (tried_is P given at exact).listed) (five_columns P node at) c.table_of-table.ensures
            c.plan_of-plan.ensures.value)
            )
      ]

pub loop-entry-preserved : goal.loop-entry-preserved
loop-entry-preserved t c =
    (c.loop-entry.invariant.0, λ P given at exact. turned t c P given at exact (view c.if-eligible.b) (turn t c P given at exact))

pub returns : goal.returns
returns t c =
    let q : c.loop-entry.entry-index ≡ length c.args.entries.now = let y = c.loop-entry-test.false in omega arith in
    let k = c.loop-entry.invariant.0 in
    let m = c.affordable-most.ensures.upper_bound in
    λ P given at exact.
    walk_end needless P c.args.setup.task.cost_limit (list_of c.args.tree.node) c.args.tree.remaining (view c.args.best)
    (view c.consider_met-b.result) (view c.loop-entry.b) (omega arith)
    (c.consider_met-b.ensures P given.posed.asks at)
    (rw (q, entry_count P c.args.setup.task c.args.entries.now given.posed) at (c.loop-entry.invariant.1 P given at exact))
