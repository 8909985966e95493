-- What a node says of the lists below it: the ways to finish, the heavy gates that they need, the tests of the list itself, and one gate further.
use mathlib.Core.Path.{◌≡◌, sym, ap, ap₂, ◌∙◌}
use mathlib.Core.Bool.{Bool, true, false}
use mathlib.Core.List.{List, [], ◌∷◌, ◌++◌, append_assoc, map, map-append, Memᴰ}
use mathlib.Core.Option.{Option}
use Prim.Native.Nat.{ℕ, ◌+◌, ◌<◌}
use native.Mathlib.Nat.{add-zero}
use native.Mathlib.Numerals.{add-one}
use native.Mathlib.Omega.{arith}
use lib.Dec.{leb}
use lib.ListN.{length, get_or, take, set, length-set}
use lib.Seq.{length-take-le, take-suc, take-suc-set}
use Rattle.logic.specs.Rules.{both}
use Rattle.logic.specs.Lists.{along, total, Among}
use Rattle.logic.proofs.Chain.{both_left, both_right}
use Rattle.logic.proofs.Fold.{along_append, total_append}
use Rattle.logic.proofs.Members.{among_nil, among_cons, among_append, among_all}
use Rattle.gate.specs.Gates.{lawful, gate_of}
use Rattle.gate.specs.Inner.{column_step}
use Rattle.circuit.specs.Measure.{cost, depth, greatest, hold, hold_byte, idle, ready_times}
use Rattle.circuit.specs.run.Inner.{columns_over, columns_after}
use Rattle.circuit.proofs.run.Reversal.{columns_length}
use Rattle.table.specs.layouts.Layouts.{layouts_for}
use Rattle.columns.specs.Wanted.{start_columns, met, tidy, reached}
use Rattle.columns.specs.Finish.{Finish}
use Rattle.problem.specs.declared.order.Best.{Best}
use Rattle.problem.specs.order.Choices.{Choice, keep, attempt, improve}
use Rattle.problem.specs.order.View.{choice}
use Rattle.problem.proofs.order.First.{improve_append}
use Rattle.problem.specs.Problems.{Problem, choice_of, here, within}
use Rattle.normal_forms.specs.masks.Words.{no_masks, stepped, masks_after}
use Rattle.bounds.specs.budget.Heavy.{heavy, heavies}
use Rattle.bounds.specs.span.Span.{needed}
use Rattle.bounds.proofs.span.Fewest.{needed_few}
use Rattle.walk.specs.declared.node.Task.{Task}
use Rattle.walk.specs.declared.node.Node.{Node}
use Rattle.problem.specs.declared.Entry.{Entry}
use Rattle.walk.specs.node.States.{list_of, Needs, Asks, At, Lists, Follows}

module _ (P : Problem) (task : Task) (asks : Asks P task) (l cs : List ℕ) (kept : Among P.gates l) (columned : cs ≡ columns_after l start_columns) where
  -- the columns at the end of a list that goes on to what is asked for
  ends_reached : (e : List ℕ) (p : ℕ) → Among P.gates e → P.realized p (l ++ e) ≡ true → reached task.wanted task.outputs (columns_after e cs) p ≡ true
  ends_reached e p among r =
      ap (λ (c : List ℕ). reached task.wanted task.outputs c p) (ap (columns_after e) columned ∙ sym (along_append columns_over l e start_columns))
      ∙ sym (asks.table p (l ++ e) (among_append l e kept among)) ∙ r

  -- a list that goes on to what is asked for is a way to finish from these columns
  pub finish_of : (e : List ℕ) (p : ℕ) → Among P.gates e → Memᴰ p P.layouts → P.realized p (l ++ e) ≡ true
      → Finish task.controls task.wanted task.outputs task.free cs e p
  unfolding start_columns
  finish_of e p among m r = record {
    width = asks.fair.wide;
    four = asks.four;
    five = ap length columned ∙ columns_length l start_columns;
    kept = among_all (lawful task.controls 5) P.gates e asks.kinds among;
    laid = rw asks.laid at m;
    meets = both_left (met task.wanted (columns_after e cs) p) (tidy task.outputs (columns_after e cs)) (ends_reached e p among r);
    tidied = both_right (met task.wanted (columns_after e cs) p) (tidy task.outputs (columns_after e cs)) (ends_reached e p among r);
  }

  -- the outputs that no sum of the columns gives want a heavy gate each
  pub needs_span : (k : ℕ) → k ≡ needed task.wanted cs task.outputs → Needs P l k
  needs_span k h = record {
    least = λ e p among m r. rw h (needed_few task.controls task.wanted task.outputs task.free cs e p (finish_of e p among m r));
  }

-- a light gate leaves what is needed
pub needs_light : (P : Problem) (l : List ℕ) (g k : ℕ) → Memᴰ g P.gates → heavy g ≡ false → Needs P l k → Needs P (l ++ (g ∷ [])) k
unfolding heavies total
needs_light P l g k i light a = record {
  least = λ e p among m r.
      let n = a.least (g ∷ e) p (among_cons i among) m (rw append_assoc at r) in
      let t = rw light at n in
      omega arith;
}

pub longer : (path : List ℕ) (n g : ℕ) → n < length path → take (n + 1) (set path n g) ≡ take n path ++ (g ∷ [])
longer path n g h = rw add-one (take-suc-set path n g h)

module _ (P : Problem) (l : List ℕ) (g : ℕ) where
  pub columns_snoc : columns_after (l ++ (g ∷ [])) start_columns ≡ column_step (gate_of g) (columns_after l start_columns)
  unfolding along
  columns_snoc = along_append columns_over l (g ∷ []) start_columns

  pub times_snoc : ready_times P.duration (l ++ (g ∷ [])) ≡ hold (gate_of g) (P.duration g) (ready_times P.duration l)
  unfolding along
  times_snoc = along_append (hold_byte P.duration) l (g ∷ []) idle

  pub cost_snoc : cost P.price (l ++ (g ∷ [])) ≡ cost P.price l + P.price g
  unfolding total
  cost_snoc = total_append P.price l (g ∷ []) ∙ ap (λ (n : ℕ). cost P.price l + n) (add-zero (P.price g))

marks_snoc : (l : List ℕ) (g : ℕ) → masks_after (l ++ (g ∷ [])) ≡ stepped g (masks_after l)
unfolding along
marks_snoc l g = along_append stepped l (g ∷ []) no_masks

-- the list one gate further: its gates, its columns, and its depth
module _ (P : Problem) (s : Node) (e : Entry) (at : At P s) (is : Lists P e) where
  pub follow_list : Among P.gates (list_of s ++ (e.gate ∷ []))
      × (column_step (gate_of e.gate) s.columns ≡ columns_after (list_of s ++ (e.gate ∷ [])) start_columns)
  follow_list = (
    among_append (list_of s) (e.gate ∷ []) at.kept (among_cons is.listed among_nil),
    ap (column_step (gate_of e.gate)) at.columned ∙ sym (columns_snoc P (list_of s) e.gate),
  )

  pub depth_after : greatest (hold (gate_of e.gate) e.duration s.times) ≡ depth P.duration (list_of s ++ (e.gate ∷ []))
  depth_after = ap greatest (ap₂ (hold (gate_of e.gate)) is.timed at.timed ∙ sym (times_snoc P (list_of s) e.gate))

-- a node one gate further, by its parts
module _ (P : Problem) (s next : Node) (e : Entry) (at : At P s) (is : Lists P e) (room : s.len < length s.path) where
  pub follows : next.len ≡ s.len + 1 → next.path ≡ set s.path s.len e.gate → next.columns ≡ column_step (gate_of e.gate) s.columns
      → next.times ≡ hold (gate_of e.gate) e.duration s.times → next.cost ≡ s.cost + e.price
      → Needs P (list_of s ++ (e.gate ∷ [])) next.needs → next.marks ≡ stepped e.gate s.marks
      → Follows P s e.gate next
  follows hl hp hc ht hk hn hm =
      let g = e.gate in
      let l = list_of s in
      let long : list_of next ≡ l ++ (g ∷ []) = ap₂ take hl hp ∙ longer s.path s.len g room in
      record {
        at = record {
          roomy = rw (hl, hp, length-set s.path s.len g) (omega arith);
          kept = rw long (among_append l (g ∷ []) at.kept (among_cons is.listed among_nil));
          columned = hc ∙ ap (column_step (gate_of g)) at.columned ∙ sym (columns_snoc P l g) ∙ ap (λ (m : List ℕ). columns_after m start_columns) (sym long);
          timed = ht ∙ ap₂ (hold (gate_of g)) is.timed at.timed ∙ sym (times_snoc P l g) ∙ ap (ready_times P.duration) (sym long);
          paid = hk ∙ ap₂ ◌+◌ at.paid is.priced ∙ sym (cost_snoc P l g) ∙ ap (cost P.price) (sym long);
          needing = rw long hn;
          marking = hm ∙ ap (stepped g) at.marking ∙ sym (marks_snoc l g) ∙ ap masks_after (sym long);
        };
        longer = long;
      }

pub five_columns : (P : Problem) (s : Node) → At P s → length s.columns ≡ 5
unfolding start_columns
five_columns P s at = ap length at.columned ∙ columns_length (list_of s) start_columns

-- the tests of a node are those of the choice, and what is offered is that choice
module _ (P : Problem) (task : Task) (s : Node) (asks : Asks P task) (at : At P s) (p : ℕ) where
  pub good_is : both (reached task.wanted task.outputs s.columns p) (both (leb s.cost task.cost_limit) (leb (greatest s.times) task.depth_limit))
      ≡ within P task.cost_limit (choice_of P (list_of s) p)
  unfolding within choice_of
  good_is =
      ap₂ both
      (ap (λ (c : List ℕ). reached task.wanted task.outputs c p) at.columned ∙ sym (asks.table p (list_of s) at.kept))
      (ap₂ both (ap (λ (c : ℕ). leb c task.cost_limit) at.paid) (ap₂ leb (ap greatest at.timed) asks.deep))

  pub mine_is : (b : Best) → b.cost ≡ s.cost → b.depth ≡ greatest s.times → b.layout ≡ p → b.len ≡ s.len → b.path ≡ s.path
      → choice b ≡ choice_of P (list_of s) p
  unfolding choice choice_of
  mine_is b hc hd hp hl hb =
      let l = length-take-le s.len s.path at.roomy in
      λ i. record {
        cost = (hc ∙ at.paid) i;
        gates = (hl ∙ sym l) i;
        depth = (hd ∙ ap greatest at.timed) i;
        layout = hp i;
        bytes = take (hl i) (hb i);
      }

pub here_is : (P : Problem) (task : Task) (l : List ℕ) → Asks P task → map (choice_of P l) (layouts_for task.outputs task.free) ≡ here P l
unfolding here
here_is P task l asks = ap (map (choice_of P l)) (sym asks.laid)

-- one layout more
pub layouts_turn : (g : Choice → Bool) (f : ℕ → Choice) (ls : List ℕ) (i : ℕ) (x₀ x y : Option Choice) → i < length ls
    → x ≡ improve g x₀ (map f (take i ls))
    → y ≡ attempt g x (f (get_or ls i 0))
    → y ≡ improve g x₀ (map f (take (i + 1) ls))
unfolding improve
layouts_turn g f ls i x₀ x y h hx hy =
    rw (add-one, take-suc ls i 0 h, map-append f (take i ls) (get_or ls i 0 ∷ []), improve_append g x₀ (map f (take i ls)) (f (get_or ls i 0) ∷ []), ← hx) hy

pub attempt_good : (g : Choice → Bool) (x : Option Choice) (a : Choice) → g a ≡ true → attempt g x a ≡ keep x a
unfolding attempt
attempt_good g x a h = rw h
