-- Why a list or a gate is pruned: the cost left buys only so many gates, some of them heavy; too many outputs are owed; or the filter rules it out.
use mathlib.Core.Path.{◌≡◌, refl, sym, ap, ◌∙◌, subst}
use mathlib.Core.Bool.{Bool, true, false, false≢true}
use mathlib.Core.Logic.{◌⊎◌, ⊎_elim}
use mathlib.Core.List.{List, ◌∷◌, ◌++◌, Memᴰ}
use mathlib.Core.Option.{Option}
use Prim.Native.Nat.{ℕ, ◌+◌, ◌-◌, ◌*◌, ◌≤◌, ◌<◌}
use native.Mathlib.Omega.{arith}
use borrow.Author.Tests.{leb-true, leb-false}
use lib.Dec.{leb}
use lib.ListN.{length}
use Rattle.logic.specs.Rules.{bit}
use Rattle.logic.specs.Lists.{Among}
use Rattle.logic.specs.Bit.{bit_of}
use Rattle.logic.proofs.Fold.{total_append}
use Rattle.logic.proofs.Members.{among_cons}
use Rattle.gate.specs.Gates.{target_of, gate_of}
use Rattle.gate.specs.Inner.{column_step}
use Rattle.circuit.specs.Measure.{cost}
use Rattle.circuit.specs.run.Inner.{columns_after}
use Rattle.columns.specs.Wanted.{start_columns}
use Rattle.columns.specs.Finish.{Finish}
use Rattle.problem.specs.order.Choices.{Choice, attempt, improve}
use Rattle.problem.proofs.order.First.{attempt_not}
use Rattle.problem.specs.Problems.{Problem, choice_of, here, within}
use Rattle.problem.specs.Inner.{Enough}
use Rattle.problem.proofs.Listed.{unrealized}
use Rattle.problem.proofs.Skips.{skip_far, skip_gate}
use Rattle.problem.proofs.Walk.{alone}
use Rattle.problem.specs.pruned.Pruned.{tried_under}
use Rattle.problem.proofs.pruned.Walk.{spared, by_bound}
use Rattle.bounds.specs.budget.Afford.{buys}
use Rattle.bounds.specs.budget.Heavy.{heavies}
use Rattle.bounds.proofs.budget.Afford.{heavies_most, buys_most, afford}
use Rattle.outputs.specs.Owed.{lost, worth, stuck}
use Rattle.outputs.proofs.Few.{lost_few, finish_next}
use Rattle.outputs.proofs.Skips.{worth_not}
use Rattle.outputs.proofs.Unfinished.{stuck_none}
use Rattle.bloom.specs.declared.hash.Reach.{Reach}
use Rattle.bloom.specs.hash.Reach.{shares_of, held, open_on}
use Rattle.reach_filter.specs.fill.Sieve.{Sieve}
use Rattle.reach_filter.proofs.fill.Cuts.{open_first, next_seen}
use Rattle.walk.specs.declared.node.Task.{Task}
use Rattle.walk.specs.declared.node.Least.{Least}
use Rattle.walk.specs.declared.node.Node.{Node}
use Rattle.walk.specs.node.States.{list_of, Needs, Asks, Bounded, At, needless, Passed}
use Rattle.walk.proofs.node.Nodes.{finish_of}

-- the whole state is in the set
abbrev in_set : List ℕ → Reach → List ℕ → Bool
in_set bits reach cs = held bits reach.size (shares_of reach cs) 5 5

-- a longer list either costs more than may be, or does not realize what is asked for, or is within r after all
module _ (P : Problem) (limit most : ℕ) (l : List ℕ) (needs remaining r : ℕ) (held : Option Choice)
    (least : Needs P l needs)
    (over : (c : Choice) → most < c.cost → attempt (within P limit) held c ≡ held)
    (bought : (e : List ℕ) → Among P.gates e → needs ≤ heavies e → cost P.price l + cost P.price e ≤ most → length e ≤ remaining → length e ≤ r) where
  enough : Enough P limit l remaining r held
  unfolding choice_of
  enough =
      record {
        beyond = λ e p among m short long.
            by_cost e p among short long (λ q. least.least e p among m q) (total_append P.price l e) (leb (cost P.price (l ++ e)) most) refl;
      }
    where
      by_table : (e : List ℕ) (p : ℕ) → Among P.gates e → length e ≤ remaining → r < length e → (P.realized p (l ++ e) ≡ true → needs ≤ heavies e)
          → cost P.price l + cost P.price e ≤ most → (t : Bool) → P.realized p (l ++ e) ≡ t
          → attempt (within P limit) held (choice_of P (l ++ e) p) ≡ held
      by_table e p among short long n k true q = absurd (omega (arith, bought e among (n q) k short))
      by_table e p among short long n k false q = attempt_not (within P limit) held (choice_of P (l ++ e) p) (unrealized P limit (choice_of P (l ++ e) p) q)

      by_cost : (e : List ℕ) (p : ℕ) → Among P.gates e → length e ≤ remaining → r < length e → (P.realized p (l ++ e) ≡ true → needs ≤ heavies e)
          → cost P.price (l ++ e) ≡ cost P.price l + cost P.price e
          → (t : Bool) → leb (cost P.price (l ++ e)) most ≡ t → attempt (within P limit) held (choice_of P (l ++ e) p) ≡ held
      by_cost e p among short long n k true q =
          by_table e p among short long n (rw k at (leb-true (cost P.price (l ++ e)) most q)) (P.realized p (l ++ e)) refl
      by_cost e p among short long n k false q = over (choice_of P (l ++ e) p) (leb-false (cost P.price (l ++ e)) most q)

-- the same at a node, by the numbers that it holds
module _ (P : Problem) (limit : ℕ) (least : Least) (s : Node) (bounded : Bounded P least) (at : At P s) (most remaining : ℕ) (held : Option Choice)
    (over : (c : Choice) → most < c.cost → attempt (within P limit) held c ≡ held) where
  -- what is there already costs too much
  pub enough_spent : most < s.cost → Enough P limit (list_of s) remaining 0 held
  enough_spent h = enough P limit most (list_of s) s.needs remaining 0 held at.needing over (λ e among k c short. absurd (omega (arith, at.paid)))

  -- the heavy gates cost too much
  pub enough_heavy : s.cost ≤ most → most - s.cost < s.needs * least.extra → Enough P limit (list_of s) remaining 0 held
  enough_heavy i h =
      enough P limit most (list_of s) s.needs remaining 0 held at.needing over
      (λ e among k c short.
      let d : cost P.price e ≤ most - s.cost = omega (arith, at.paid) in
      let f = afford least.low least.extra P.gates P.price bounded.costs e among s.needs (most - s.cost) k d in
      absurd (omega arith))

  pub enough_gates : (r : ℕ) → s.cost ≤ most → r ≡ buys least.low least.extra s.needs (most - s.cost) remaining
      → Enough P limit (list_of s) remaining r held
  enough_gates r i h =
      enough P limit most (list_of s) s.needs remaining r held at.needing over
      (λ e among k c short.
      let d : cost P.price e ≤ most - s.cost = omega (arith, at.paid) in
      rw h (buys_most least.low least.extra P.gates P.price bounded.costs e among s.needs (most - s.cost) k d remaining short))

module _ (P : Problem) (task : Task) (s : Node) (asks : Asks P task) (at : At P s) where
  finish : (e : List ℕ) (p : ℕ) → Among P.gates e → Memᴰ p P.layouts → P.realized p (list_of s ++ e) ≡ true
      → Finish task.controls task.wanted task.outputs task.free s.columns e p
  finish = finish_of P task asks (list_of s) s.columns at.kept at.columned

  abbrev missing : ℕ
  missing = lost task.wanted s.columns task.outputs task.free

  few : (e : List ℕ) (p : ℕ) → Among P.gates e → Memᴰ p P.layouts → P.realized p (list_of s ++ e) ≡ true → missing ≤ length e
  few e p among m r = lost_few task.controls task.wanted task.outputs task.free s.columns e p (finish e p among m r)

  -- more outputs are missed, or more heavy gates needed, than gates can still come
  pub far : (limit remaining most : ℕ) (held : Option Choice) → Enough P limit (list_of s) remaining most held → (most < missing) ⊎ (most < s.needs)
      → held ≡ tried_under needless P limit (list_of s) remaining held
  far limit remaining most held enough h =
      sym (spared needless P limit (list_of s) remaining held (skip_far P limit (list_of s) remaining most held enough λ e p among m short r.
      ⊎_elim
      (λ (k : most < missing). omega (arith, few e p among m r))
      (λ (k : most < s.needs). omega (arith, at.needing.least e p among m r, heavies_most e))
      h))

  -- a list whose outputs some layout must miss has no good layout
  pub here_lost : (limit : ℕ) (held : Option Choice) → 0 < missing → improve (within P limit) held (here P (list_of s)) ≡ held
  here_lost limit held h =
      sym (alone P limit (list_of s) held)
      ∙ skip_far P limit (list_of s) 0 0 held (record { beyond = λ e p among m short long. absurd (omega arith) })
      λ e p among m short r. omega (arith, few e p among m r)

  module _ (limit g remaining most : ℕ) (held : Option Choice) (i : Memᴰ g P.gates) (some_left : 0 < remaining) (some-most : 0 < most)
      (enough : Enough P limit (list_of s) remaining most held) where
    -- a gate that is not worth a try
    pub not_worth : worth task.wanted s.columns task.outputs task.free g most ≡ false → Passed P limit s g remaining held
    not_worth w =
        by_bound needless P limit (list_of s) (remaining - 1) g held
        (skip_gate P limit (list_of s) remaining most held enough g i some_left some-most
        λ e p among m short r. worth_not task.controls task.wanted task.outputs task.free s.columns g e p most (finish (g ∷ e) p (among_cons i among) m r) w short)

    -- no gate after it mends what is missed
    pub stuck_after : stuck task.controls task.wanted (column_step (gate_of g) s.columns) task.outputs task.free (most - 1) ≡ true → Passed P limit s g remaining held
    stuck_after w =
        by_bound needless P limit (list_of s) (remaining - 1) g held
        (skip_gate P limit (list_of s) remaining most held enough g i some_left some-most
        λ e p among m short r.
        stuck_none task.controls task.wanted task.outputs task.free (column_step (gate_of g) s.columns) e p (most - 1)
        (finish_next task.controls task.wanted task.outputs task.free s.columns g e p (finish (g ∷ e) p (among_cons i among) m r)) w (omega arith))

    module _ (bits : List ℕ) (reach : Reach) (sieve : Sieve bits reach P.gates task.controls task.wanted task.outputs task.free) where
      abbrev ends : List ℕ → List ℕ → ℕ → Type 0
      ends cs e p = Finish task.controls task.wanted task.outputs task.free cs (g ∷ e) p

      -- where a way to finish by this gate would come to nothing, the gate is passed over
      no_way : ((e : List ℕ) (p : ℕ) → Among P.gates e → ends (columns_after (list_of s) start_columns) e p → length e ≤ most - 1 → ⊥) → Passed P limit s g remaining held
      no_way none =
          by_bound needless P limit (list_of s) (remaining - 1) g held
          (skip_gate P limit (list_of s) remaining most held enough g i some_left some-most
          λ e p among m short r. none e p among (subst (λ (ds : List ℕ). ends ds e p) at.columned (finish (g ∷ e) p (among_cons i among) m r)) (omega arith))

      -- the gate's target is shut
      pub shut : (wires : ℕ) → ((w : ℕ) → w < 5 → bit_of w wires ≡ bit (open_on bits reach (shares_of reach s.columns) (most - 1) w)) → target_of g < 5
          → bit_of (target_of g) wires ≡ 0 → Passed P limit s g remaining held
      shut wires opened target z =
          no_way λ e p among fin short.
          let o = open_first bits reach P.gates task.controls task.wanted task.outputs task.free sieve (list_of s) g p at.kept e (most - 1) (among_cons i among) fin short in
          let b = opened (target_of g) target in
          let q = ap (λ (ds : List ℕ). bit (open_on bits reach (shares_of reach ds) (most - 1) (target_of g))) at.columned ∙ ap bit o in
          omega arith

      -- the state after it is not in the set
      pub unseen : most - 1 ≤ reach.radius → in_set bits reach (column_step (gate_of g) s.columns) ≡ false → Passed P limit s g remaining held
      unseen close out =
          no_way λ e p among fin short.
          let seen = next_seen bits reach P.gates task.controls task.wanted task.outputs task.free sieve (list_of s) g e p at.kept (among_cons i among) fin (omega arith) in
          absurd (false≢true (sym out ∙ ap (λ (ds : List ℕ). in_set bits reach (column_step (gate_of g) ds)) at.columned ∙ seen 5 5))
