-- What each gate of a problem costs at least, from the entries that pose it.
use Prim.Native.Nat.{ℕ, ◌+◌, ◌≤◌}
use mathlib.Core.List.{List}
use Rattle.std.specs.List.{All}
use Rattle.logic.specs.Rules.{pick}
use Rattle.problem.specs.declared.Entry.{Entry}
use Rattle.problem.specs.Problems.{Problem}
use Rattle.bounds.specs.budget.Afford.{CostsAtLeast}
use Rattle.bounds.specs.budget.Heavy.{heavy}
use Rattle.walk.specs.declared.node.Task.{Task}
use Rattle.walk.specs.node.States.{Posed}
use Rattle.walk.proofs.node.Entries.{entry_of}

module _ (P : Problem) (task : Task) (entries : List Entry) (posed : Posed P task entries) where
  -- by its place in the list
  pub costs_of : (low extra : ℕ) → All (λ (e : Entry). low + pick (heavy e.gate) extra 0 ≤ e.price) entries → CostsAtLeast low extra P.gates P.price
  costs_of low extra h g m =
      let none : Entry = record { gate = 0; price = 0; duration = 0 } in
      let q = entry_of P task entries posed g none m in
      let k = h q.0 none q.1.0 in
      rw (posed.priced q.0 none q.1.0, q.1.1) at k
