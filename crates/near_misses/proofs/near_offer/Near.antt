-- What a node says of the lists below it where some misses are allowed: the tests of the list itself, and why nothing below it counts.
use mathlib.Core.Path.{◌≡◌, refl, sym, ap, ap₂, ◌∙◌}
use mathlib.Core.Bool.{Bool, false}
use mathlib.Core.Logic.{⊎_elim}
use mathlib.Core.List.{List, [], ◌++◌, map, Memᴰ}
use mathlib.Core.Option.{Option, none}
use Prim.Native.Nat.{ℕ, ◌≤◌, ◌<◌}
use native.Mathlib.Omega.{arith}
use borrow.Author.Tests.{lt-leb}
use lib.Dec.{leb}
use lib.ListN.{length}
use Rattle.logic.specs.Rules.{both}
use Rattle.logic.specs.Lists.{Among}
use Rattle.logic.proofs.Fold.{along_append}
use Rattle.logic.proofs.Members.{among_all}
use Rattle.gate.specs.Gates.{lawful}
use Rattle.gate.proofs.Widen.{widen}
use Rattle.circuit.specs.Measure.{greatest}
use Rattle.circuit.specs.run.Inner.{columns_over, columns_after}
use Rattle.table.specs.layouts.Layouts.{layouts_for}
use Rattle.columns.specs.Wanted.{start_columns, tidy}
use Rattle.problem.specs.order.Choices.{Choice, improve}
use Rattle.problem.proofs.order.First.{attempt_not}
use Rattle.problem.specs.Problems.{Problem, choice_of, here, within}
use Rattle.problem.specs.Inner.{looked_under}
use Rattle.problem.proofs.Listed.{unrealized}
use Rattle.problem.proofs.Skips.{skip_all}
use Rattle.problem.proofs.Walk.{alone}
use Rattle.problem.specs.pruned.Pruned.{tried_under}
use Rattle.normal_forms.proofs.Normal.{normal}
use Rattle.near_misses.specs.misses.Columns.{missed_on, nearly, missed_at_least}
use Rattle.near_misses.proofs.misses.Kept.{missed_later}
use Rattle.walk.specs.declared.node.Task.{Task}
use Rattle.walk.specs.declared.node.Node.{Node}
use Rattle.walk.specs.node.States.{list_of, needless, Asks, At}
use Rattle.near_misses.specs.near_offer.Loose.{loosened}

module _ (P : Problem) (task : Task) (asks : Asks P task) (k : ℕ) where
  -- the tests of a node are those of the choice
  pub good_is : (s : Node) → At P s → (p : ℕ)
      → both (nearly task.wanted task.outputs k s.columns p) (both (leb s.cost task.cost_limit) (leb (greatest s.times) task.depth_limit))
      ≡ within (loosened task k P) task.cost_limit (choice_of P (list_of s) p)
  unfolding within choice_of
  good_is s at p =
      ap₂ both (ap (λ (c : List ℕ). nearly task.wanted task.outputs k c p) at.columned)
      (ap₂ both (ap (λ (c : ℕ). leb c task.cost_limit) at.paid) (ap₂ leb (ap greatest at.timed) asks.deep))

  pub here_is : (l : List ℕ) → map (choice_of P l) (layouts_for task.outputs task.free) ≡ here (loosened task k P) l
  unfolding here choice_of
  here_is l = ap (map (choice_of P l)) (sym asks.laid)

  module _ (l cs : List ℕ) (columned : cs ≡ columns_after l start_columns) (r : ℕ)
      (more : k < missed_at_least task.wanted cs task.outputs task.free r) where
    too_many : (e : List ℕ) (p : ℕ) → Among P.gates e → Memᴰ p P.layouts → length e ≤ r
        → nearly task.wanted task.outputs k (columns_after (l ++ e) start_columns) p ≡ false
    unfolding nearly
    too_many e p among m short =
        let t = task.wanted in
        let ends : columns_after (l ++ e) start_columns ≡ columns_after e cs = along_append columns_over l e start_columns ∙ ap (columns_after e) (sym columned) in
        let missed
        = missed_later t task.outputs task.free p asks.fair.wide (rw asks.laid at m) task.controls e cs r
        (among_all (lawful task.controls 5) P.gates e asks.kinds among) short in
        ap (λ (c : List ℕ). both (leb (missed_on t c p) k) (tidy task.outputs c)) ends
        ∙ ap (λ (b : Bool). both b (tidy task.outputs (columns_after e cs))) (lt-leb (missed_on t (columns_after e cs) p) k (omega arith))

    -- where more is missed than allowed, however a list goes on by r gates, it leaves the incumbent
    pub far : (limit : ℕ) (x : Option Choice) → looked_under (loosened task k P) limit l r x ≡ x
    unfolding choice_of
    far limit x =
        skip_all (loosened task k P) limit l r x (λ e p among m short.
        attempt_not (within (loosened task k P) limit) x (choice_of (loosened task k P) (l ++ e) p)
        (unrealized (loosened task k P) limit (choice_of (loosened task k P) (l ++ e) p) (too_many e p among m short)))

  -- the list itself, where no gate may come
  pub alone_far : (l cs : List ℕ) → cs ≡ columns_after l start_columns → k < missed_at_least task.wanted cs task.outputs task.free 0
      → (limit : ℕ) (x : Option Choice) → improve (within (loosened task k P) limit) x (here (loosened task k P) l) ≡ x
  alone_far l cs columned more limit x = sym (alone (loosened task k P) limit l x) ∙ far l cs columned 0 more limit x

  -- the test goes by the columns at the end, so that passing over needless gates loses nothing
  pub nothing_lost : (limit most : ℕ) → tried_under needless (loosened task k P) limit [] most none ≡ looked_under (loosened task k P) limit [] most none
  unfolding start_columns
  nothing_lost limit most =
      normal (loosened task k P) limit most start_columns refl
      (λ g m. widen task.controls 5 3 5 g at_most_three (omega arith) (asks.kinds g m))
      (λ p l m wl wm e. ap (λ (c : List ℕ). nearly task.wanted task.outputs k c p) e)
    where
      at_most_three : task.controls ≤ 3
      at_most_three = ⊎_elim (λ (e : task.controls ≡ 2). omega arith) (λ (e : task.controls ≡ 3). omega arith) asks.fair.few
