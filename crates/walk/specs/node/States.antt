-- What a walk is given and what its nodes stand for: what the arguments keep to by themselves, and then, for every problem that they pose,
-- what they say of it. No public contract but the solver's cites this.
use Rattle.std.specs.Prelude.{◌≡◌, Bool, true, ℕ, ◌+◌, ◌-◌, ◌*◌, ◌≤◌, ◌<◌, length, get_or, take}
use mathlib.Core.List.{List, [], ◌∷◌, ◌++◌, Memᴰ}
use Rattle.std.proofs.Math.Option.{Option}
use Rattle.std.specs.List.{All}
use Rattle.logic.specs.Lists.{Among}
use Rattle.gate.specs.Gates.{target_of, lawful}
use Rattle.circuit.specs.Measure.{cost, ready_times}
use Rattle.circuit.specs.run.Inner.{columns_after}
use Rattle.table.specs.layouts.Layouts.{Width, layouts_for}
use Rattle.columns.specs.Wanted.{start_columns, reached}
use Rattle.problem.specs.order.Choices.{Choice}
use Rattle.problem.specs.Problems.{Problem, choice_of, within}
use Rattle.problem.specs.pruned.Pruned.{tried_by}
use Rattle.normal_forms.specs.Forms.{skipped}
use Rattle.normal_forms.specs.masks.Words.{masks_after}
use Rattle.bounds.specs.budget.Heavy.{heavies}
use Rattle.bounds.specs.budget.Afford.{CostsAtLeast}
use Rattle.outputs.specs.Owed.{Controls}
use Rattle.bloom.specs.declared.hash.Reach.{Reach}
use Rattle.reach_filter.specs.fill.Sieve.{Sieve}
use Rattle.walk.specs.declared.node.Task.{Task}
use Rattle.walk.specs.declared.node.Least.{Least}
use Rattle.walk.specs.declared.node.Setup.{Setup}
use Rattle.walk.specs.declared.node.Node.{Node}
use Rattle.problem.specs.declared.Entry.{Entry}
use Rattle.problem.specs.Entries.{entry_gates}

-- the gate list of a node
abbrev pub list_of : Node → List ℕ
list_of s = take s.len s.path

-- each entry's gate has its target on one of the five wires
abbrev pub OnWires : List Entry → Type 0
OnWires entries = All (λ (e : Entry). target_of e.gate < 5) entries

-- such entries, and a filter that rules out no state from which their gates can still realize the task's table
pub record Supplied (entries : List Entry) (task : Task) (bits : List ℕ) (reach : Reach) : Type 0 where
  pub known : OnWires entries
  pub sieve : Sieve bits reach (entry_gates entries) task.controls task.wanted task.outputs task.free

-- a node's list has room for twelve gates, and its ready times and cost fit their words
pub record Small (s : Node) : Type 0 where
  pub sized : length s.path ≡ 12
  pub early : (w : ℕ) → get_or s.times w 0 ≤ 255 * s.len
  pub cheap : s.cost ≤ 255 * s.len
  pub few : s.needs ≤ 12

-- a task has three or four outputs, and its gates have at most two controls, or three
pub record Fair (task : Task) : Type 0 where
  pub wide : Width task.outputs
  pub few : Controls task.controls

-- the ranges of a task's numbers and of the lower bounds
pub record Ready (task : Task) (least : Least) : Type 0 where
  pub fair : Fair task
  pub modest : least.extra ≤ 255
  pub few : least.needs ≤ 12

-- each way to finish the list, so that it realizes the table, has at least k heavy gates
pub record Needs (P : Problem) (l : List ℕ) (k : ℕ) : Type 0 where
  pub least : (e : List ℕ) (p : ℕ) → Among P.gates e → Memᴰ p P.layouts → P.realized p (l ++ e) ≡ true → k ≤ heavies e

-- the task asks what the problem does: the layouts, the wanted columns and the limit on depth; the problem's gates have no more controls
-- than the task allows
pub record Asks (P : Problem) (task : Task) : Type 0 where
  pub fair : Fair task
  pub four : length task.wanted.care ≡ 4
  pub laid : P.layouts ≡ layouts_for task.outputs task.free
  pub table : (p : ℕ) (l : List ℕ) → Among P.gates l
      → P.realized p l ≡ reached task.wanted task.outputs (columns_after l start_columns) p
  pub deep : task.depth_limit ≡ P.most_depth
  pub kinds : (g : ℕ) → Memᴰ g P.gates → lawful task.controls 5 g ≡ true

-- the task asks what the problem does, and the entries are the problem's gates with their prices and durations
pub record Posed (P : Problem) (task : Task) (entries : List Entry) : Type 0 where
  pub asks : Asks P task
  pub listed : entry_gates entries ≡ P.gates
  pub priced : All (λ (e : Entry). e.price ≡ P.price e.gate) entries
  pub timed : All (λ (e : Entry). e.duration ≡ P.duration e.gate) entries

-- the task's limits on gates and cost are the problem's own
pub record Limited (P : Problem) (task : Task) : Type 0 where
  pub gates_most : task.gate_limit ≡ P.most_gates
  pub cost_most : task.cost_limit ≡ P.most_cost

-- the lower bounds hold for the problem
pub record Bounded (P : Problem) (least : Least) : Type 0 where
  pub costs : CostsAtLeast least.low least.extra P.gates P.price
  pub needed : Needs P [] least.needs

-- the problem is posed to a walk, and the walk's lower bounds hold for it
pub record Given (P : Problem) (setup : Setup) (entries : List Entry) : Type 0 where
  pub posed : Posed P setup.task entries
  pub bounded : Bounded P setup.least

-- a node's columns, ready times, cost, lower bound and marks are those that its list leads to
pub record At (P : Problem) (s : Node) : Type 0 where
  pub roomy : s.len ≤ length s.path
  pub kept : Among P.gates (list_of s)
  pub columned : s.columns ≡ columns_after (list_of s) start_columns
  pub timed : s.times ≡ ready_times P.duration (list_of s)
  pub paid : s.cost ≡ cost P.price (list_of s)
  pub needing : Needs P (list_of s) s.needs
  pub marking : s.marks ≡ masks_after (list_of s)

-- where sums are given: they mark the cost and count of every list of at most k gates, and each good way to go on from l by at most k gates
-- has exactly k of them and comes to exactly the limit
pub record Exact (P : Problem) (limit : ℕ) (l : List ℕ) (k : ℕ) (sums : List ℕ) : Type 0 where
  pub marked : (e : List ℕ) → Among P.gates e → length e ≤ k → 13 * cost P.price e + length e < length sums
      → 0 < get_or sums (13 * cost P.price e + length e) 0
  pub only : 0 < length sums → (e : List ℕ) (p : ℕ) → Among P.gates e → Memᴰ p P.layouts → length e ≤ k
      → within P limit (choice_of P (l ++ e) p) ≡ true → (length e ≡ k) × (cost P.price (l ++ e) ≡ limit)

-- a gate of the problem with its own price and duration
pub record Lists (P : Problem) (e : Entry) : Type 0 where
  pub listed : Memᴰ e.gate P.gates
  pub priced : e.price ≡ P.price e.gate
  pub timed : e.duration ≡ P.duration e.gate

-- `next` is the node of the list of s with gate g after it
pub record Follows (P : Problem) (s : Node) (g : ℕ) (next : Node) : Type 0 where
  pub at : At P next
  pub longer : list_of next ≡ list_of s ++ (g ∷ [])

-- the gates that need not come next after a list: they change no column, or a list that comes first does the same
abbrev pub needless : List ℕ → ℕ → Bool
needless l g = skipped start_columns l g

-- passing over gate g at node s leaves the incumbent what it would be
abbrev pub Passed : Problem → ℕ → Node → ℕ → ℕ → Option Choice → Type 0
Passed P limit s g remaining held = held ≡ tried_by needless P limit (list_of s) (remaining - 1) g held
