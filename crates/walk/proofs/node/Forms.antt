-- The gates that a node passes over as needless are those of the normal form, and passing over them loses nothing.
use mathlib.Core.Path.{◌≡◌, refl, sym, ap, ap₂, ◌∙◌}
use mathlib.Core.Logic.{⊎_elim}
use mathlib.Core.List.{List, [], Memᴰ}
use mathlib.Core.Option.{none}
use Prim.Native.Nat.{ℕ, ◌≤◌, ◌<◌}
use native.Mathlib.Omega.{arith}
use lib.Dec.{eqb}
use Rattle.logic.specs.Rules.{either}
use Rattle.gate.specs.Gates.{target_of, gate_of}
use Rattle.gate.specs.Inner.{firing}
use Rattle.gate.proofs.Widen.{parts, widen}
use Rattle.columns.specs.Wanted.{start_columns, reached}
use Rattle.problem.specs.Problems.{Problem}
use Rattle.problem.specs.Inner.{looked_under}
use Rattle.problem.specs.pruned.Pruned.{tried_under}
use Rattle.normal_forms.specs.Forms.{skipped}
use Rattle.normal_forms.proofs.Normal.{normal}
use Rattle.normal_forms.specs.declared.masks.Masks.{Masks}
use Rattle.normal_forms.specs.masks.Words.{marked}
use Rattle.normal_forms.proofs.masks.Told.{told}
use Rattle.walk.specs.declared.node.Task.{Task}
use Rattle.walk.specs.declared.node.Node.{Node}
use Rattle.walk.specs.node.States.{list_of, needless, Asks, At}

module _ (P : Problem) (task : Task) (asks : Asks P task) where
  -- what the code tests at a node
  pub needless_told : (s : Node) (g : ℕ) → At P s → Memᴰ g P.gates
      → either (eqb (firing (gate_of g).kind s.columns) 0) (marked s.marks g) ≡ needless (list_of s) g
  unfolding skipped
  needless_told s g at m =
      ap₂ either (ap (λ (cs : List ℕ). eqb (firing (gate_of g).kind cs) 0) at.columned)
      (ap (λ (x : Masks). marked x g) at.marking ∙ told g (target g m) (list_of s) (λ a n. target a (at.kept a n)))
    where
      target : (a : ℕ) → Memᴰ a P.gates → target_of a < 5
      target a n = (parts task.controls 5 a (asks.kinds a n)).target

  pub nothing_lost : (limit k : ℕ) → tried_under needless P limit [] k none ≡ looked_under P limit [] k none
  unfolding start_columns
  nothing_lost limit k =
      normal P limit k start_columns refl
      (λ g m. widen task.controls 5 3 5 g at_most_three (omega arith) (asks.kinds g m))
      (λ p l m wl wm e. asks.table p l wl ∙ ap (λ (cs : List ℕ). reached task.wanted task.outputs cs p) e ∙ sym (asks.table p m wm))
    where
      at_most_three : task.controls ≤ 3
      at_most_three = ⊎_elim (λ (e : task.controls ≡ 2). omega arith) (λ (e : task.controls ≡ 3). omega arith) asks.fair.few
