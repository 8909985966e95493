-- One search after the other: what a cost buys, when only exact sums can be good, and the same task with another limit.
use mathlib.Core.Path.{◌≡◌, sym, ◌∙◌, subst}
use mathlib.Core.Bool.{true}
use Rattle.std.specs.Prelude.{Option, Some, None, MatchOption}
use mathlib.Core.List.Memᴰ
use mathlib.Core.List.{List, [], Memᴰ}
use Prim.Native.Nat.{ℕ, ◌≤◌, ◌<◌}
use native.Mathlib.Omega.{arith}
use lib.ListN.{length}
use Rattle.std.proofs.Math.Option.{none, some}
use Rattle.problem.specs.declared.Entry.{Entry}
use Rattle.problem.specs.Entries.{entry_prices}
use Rattle.problem.specs.declared.order.Best.{Best}
use Rattle.problem.specs.order.Choices.{Choice}
use Rattle.problem.specs.order.View.{view}
use Rattle.problem.specs.Problems.{Problem, choice_of, choices, good}
use Rattle.problem.specs.Inner.{looked_under, Past, Dearer, Shortest}
use Rattle.problem.proofs.Limits.{past_below, past_next, shortest, held_cost}
use Rattle.problem.proofs.Listed.{listed, unlisted, gates_are, cost_is, within_parts, within_joined}
use Rattle.bounds.specs.budget.Afford.{buys}
use Rattle.bounds.specs.sums.Sums.{Marked}
use Rattle.bounds.proofs.budget.Afford.{buys_most}
use Rattle.bounds.proofs.sums.Sums.{sums_marked}
use Rattle.walk.specs.declared.node.Task.{Task}
use Rattle.walk.specs.declared.node.Least.{Least}
use Rattle.walk.specs.node.States.{Fair, Posed, Limited, Bounded, Exact}
use Rattle.walk.proofs.node.Entries.{entry_price}
use Rattle.solver.specs.deepening.Deepening.{Counted, Deepened, Priced, limited_to}

-- what a search comes to, told in other words whether it found something or not
pub carried : {A A' : Type 0} {B B' : Best → Type 0} (r : Option Best) → (A → A') → ((b : Best) → B b → B' b) → MatchOption r A B → MatchOption r A' B'
carried None f g h = f h
carried (Some b) f g h = g b h

-- the gates that a cost buys
pub bought : (P : Problem) (least : Least) → Bounded P least → (limit : ℕ) (a : Choice) → Memᴰ a (choices P) → good P a ≡ true → a.cost ≤ limit
    → a.gates ≤ buys least.low least.extra least.needs limit P.most_gates
unfolding choice_of
bought P least bounded limit a m h c =
    let i = listed P [] P.most_gates a m in
    let met = rw (← i.same) at (within_parts P P.most_cost a h).0 in
    let few = bounded.needed.least i.more i.layout i.among i.laid met in
    rw (gates_are P P.most_gates a i)
    (buys_most least.low least.extra P.gates P.price bounded.costs i.more i.among least.needs limit few
    (rw (cost_is P P.most_gates a i) at c) P.most_gates i.short)

-- what a walk up to g gates comes to, where nothing good has fewer
pub deepened : (P : Problem) (limit g : ℕ) → limit ≤ P.most_cost → g ≤ P.most_gates → (r : Option Best) → view r ≡ looked_under P limit [] g none
    → Past P limit g → Deepened P limit g r
unfolding view
deepened P limit g hl hg None e past = past_next P limit g hl hg (sym e)
deepened P limit g hl hg (Some b) e past = shortest P limit g b hl hg e past

-- where no sums are given nothing is known of them
pub no_sums : (P : Problem) (limit : ℕ) → Counted P limit []
no_sums P limit = record { marked = λ e among short h. absurd (omega arith); dear = λ some. absurd (omega arith) }

-- where all smaller costs, and all smaller counts at this cost, have nothing good, only lists of exactly this cost and count can be good
pub exact_at : (P : Problem) (limit g : ℕ) (sums : List ℕ) → limit ≤ P.most_cost → g ≤ P.most_gates → Past P limit g → Counted P limit sums
    → Exact P limit [] g sums
unfolding choice_of
exact_at P limit g sums hl hg past counted = record {
  marked = λ e among short h. counted.marked e among (omega arith) h;
  only = λ some e p among laid short h.
      let a = choice_of P e p in
      let w = within_parts P limit a h in
      let m = unlisted P [] P.most_gates e p among (omega arith) laid in
      let good = within_joined P P.most_cost a w.0 (omega arith) w.1.1 in
      let k = past.gates_least a m good w.1.0 in
      let c = (counted.dear some).cost_least a m good in
      let q = w.1.0 in
      (omega arith, omega arith);
}

-- another limit on cost leaves a task's outputs and controls
pub fair_limited : (task : Task) (c : ℕ) → Fair task → Fair (limited_to task c)
unfolding limited_to
fair_limited task c f = record { wide = f.wide; few = f.few }

module _ (P : Problem) (task : Task) (entries : List Entry) (posed : Posed P task entries) where
  -- what the sums and the costs tried so far tell of the next cost
  pub counted_at : (sums : List ℕ) (c : ℕ) → P.most_gates ≤ 12 → Marked (entry_prices entries) P.most_gates sums → Dearer P c → Counted P c sums
  counted_at sums c few marked dear =
      record { marked = sums_marked P.price P.gates (entry_prices entries) sums P.most_gates (entry_price P task entries posed) few marked; dear = λ some. dear }

  -- another limit on cost changes nothing that is asked
  pub posed_limited : (c : ℕ) → Posed P (limited_to task c) entries
  unfolding limited_to
  posed_limited c = record {
    asks = let a = posed.asks in record { fair = fair_limited task c a.fair; four = a.four; laid = a.laid; table = a.table; deep = a.deep; kinds = a.kinds };
    listed = posed.listed;
    priced = posed.priced;
    timed = posed.timed;
  }

  -- what a search at a cost below the incumbent's comes to
  pub priced_below : (least : Least) → Bounded P least → Limited P task → (d : Choice) → Shortest P P.most_cost (some d) d.gates
      → (c : ℕ) → c < d.cost → (sums : List ℕ) → Counted P c sums → (t : Task) → t ≡ limited_to task c → (r : Option Best)
      → (Posed P t entries → Bounded P least → t.cost_limit ≤ P.most_cost → t.gate_limit ≡ P.most_gates → Past P t.cost_limit d.gates
      → Counted P t.cost_limit sums → Priced P t.cost_limit r)
      → Priced P c r
  unfolding limited_to
  priced_below least bounded limited d first c k sums counted t e r searched =
      let below = held_cost P P.most_cost d (omega arith) first in
      subst
      (λ (t : Task). (Posed P t entries → Bounded P least → t.cost_limit ≤ P.most_cost → t.gate_limit ≡ P.most_gates → Past P t.cost_limit d.gates
      → Counted P t.cost_limit sums → Priced P t.cost_limit r)) e searched (posed_limited c) bounded (omega arith) limited.gates_most
      (past_below P P.most_cost c d.gates (omega arith) first.past) counted
