-- A gate is passed over by its tests, or entered by the recursive call.
use mathlib.Core.Path.{◌≡◌, refl, sym, ap, ◌∙◌}
use mathlib.Core.List.{List, flat_map}
use mathlib.Core.Option.{Option}
use Prim.Native.Nat.{ℕ, ◌+◌, ◌-◌, ◌≤◌, ◌<◌}
use native.Mathlib.Omega.{arith}
use lib.ListN.{length, get_or}
use Rattle.problem.specs.order.Choices.{Choice, improve}
use Rattle.problem.specs.order.View.{view}
use Rattle.problem.specs.Problems.{Problem, here, within}
use Rattle.problem.specs.pruned.Pruned.{branches, tried_under, tried_by}
use Rattle.problem.proofs.order.Left.{viewed_is}
use Rattle.problem.proofs.pruned.Listing.{pruned_zero}
use Rattle.problem.proofs.pruned.Walk.{by_entering, walk_turn, walk_end}
use Rattle.walk.specs.declared.node.Task.{Task}
use Rattle.walk.specs.declared.node.Node.{Node}
use Rattle.problem.specs.declared.Entry.{Entry}
use Rattle.walk.specs.node.States.{list_of, needless, Posed, At, Lists}
use Rattle.walk.proofs.node.Entries.{entry_lists, entry_place, entry_gate, entry_count}
use Rattle.near_misses.specs.near_offer.Loose.{loosened}
use Rattle.near_misses.proofs.near_walk.+dfs.Goals as goal
use Rattle.near_misses.proofs.near_walk.+dfs.Goals.{Joined-hopeful, then-hopeful, else-hopeful}

pub returns-then-remaining-eq0 : goal.returns-then-remaining-eq0
unfolding tried_under
returns-then-remaining-eq0 t c =
    λ P posed at.
    c.consider_near-b.ensures P posed.asks at
    ∙ sym (ap (improve (within (loosened c.args.task c.args.k P) c.args.task.cost_limit) (view c.args.best))
    (pruned_zero needless (here (loosened c.args.task c.args.k P)) P.gates (list_of c.args.s) c.args.remaining c.if-remaining-eq0.true))

pub loop-entry-init : goal.loop-entry-init
unfolding improve flat_map
loop-entry-init t c =
    let z = c.if-remaining-eq0.false in
    (omega arith, λ P posed at. refl)

-- what is known in a turn of the loop
module _ (t : ℕ) (c : Joined-hopeful t) where
  abbrev task : Task
  task = c.args.task

  abbrev node : Node
  node = c.args.s

  abbrev limit : ℕ
  limit = task.cost_limit

  abbrev rest : ℕ
  rest = c.args.remaining - 1

  abbrev loose : Problem → Problem
  loose P = loosened task c.args.k P

  abbrev entry : Entry
  entry = get_or c.args.entries.now c.loop-entry.entry-index (record { gate = 0; price = 0; duration = 0 })

  index : c.loop-entry.entry-index < length c.args.entries.now
  index = c.loop-entry-test.true

  module _ (P : Problem) (posed : Posed P task c.args.entries.now) where
    tried_is : Lists P entry
    tried_is = entry_lists P task c.args.entries.now posed c.loop-entry.entry-index _ index

    -- one gate more, whichever way it went
    turned : At P node → (y : Option Choice) → y ≡ tried_by needless (loose P) limit (list_of node) rest entry.gate (view c.loop-entry.b)
        → y ≡ improve (within (loose P) limit) (view c.consider_near-b.result)
        (branches needless (here (loose P)) P.gates (list_of node) rest (c.loop-entry.entry-index + 1))
    turned at y e =
        walk_turn needless (loose P) limit (list_of node) rest c.loop-entry.entry-index (view c.consider_near-b.result) (view c.loop-entry.b) y
        (entry_place P task c.args.entries.now posed c.loop-entry.entry-index index) (c.loop-entry.invariant.1 P posed at)
        (e ∙ ap (λ (g : ℕ). tried_by needless (loose P) limit (list_of node) rest g (view c.loop-entry.b))
        (sym (entry_gate P task c.args.entries.now posed c.loop-entry.entry-index _ index)))

  -- what the turn comes to, by each of its two ways
  turn : (P : Problem) → Posed P task c.args.entries.now → At P node
      → view c.if-hopeful.b ≡ tried_by needless (loose P) limit (list_of node) rest entry.gate (view c.loop-entry.b)
  turn =
      elim c.if-hopeful.branch [
        | then-hopeful w ↦ (
            λ P posed at.
            let is = tried_is P posed in
            let f = w.advance-node.ensures.follows P posed.asks at is c.table_of-table.ensures in
            ap view w.b-is
            ∙ w.dfs-b.ensures P posed f.at
            ∙ ap (λ (l : List ℕ). tried_under needless (loose P) limit l rest (view c.loop-entry.b)) f.longer
            ∙ by_entering needless (loose P) limit (list_of node) rest entry.gate (view c.loop-entry.b)
            (c.hopeful.ensures.gate_value P posed.asks at is c.table_of-table.ensures w.if-hopeful.true)
            )
        | else-hopeful w ↦ (
            λ P posed at.
            ap view w.b-is
            ∙ rw (viewed_is c.loop-entry.b) at
            (c.hopeful.ensures.best_value P posed.asks at (tried_is P posed) c.table_of-table.ensures w.if-hopeful.false)
            )
      ]

pub loop-entry-preserved : goal.loop-entry-preserved
loop-entry-preserved t c =
    (c.loop-entry.invariant.0, λ P posed at. turned t c P posed at (view c.if-hopeful.b) (turn t c P posed at))

pub returns : goal.returns
returns t c =
    let q : c.loop-entry.entry-index ≡ length c.args.entries.now = let y = c.loop-entry-test.false in omega arith in
    let k = c.loop-entry.invariant.0 in
    λ P posed at.
    walk_end needless (loosened c.args.task c.args.k P) c.args.task.cost_limit (list_of c.args.s) c.args.remaining (view c.args.best)
    (view c.consider_near-b.result) (view c.loop-entry.b) (omega arith)
    (c.consider_near-b.ensures P posed.asks at)
    (rw (q, entry_count P c.args.task c.args.entries.now posed) at (c.loop-entry.invariant.1 P posed at))
