-- In the words of the calls: the search answers 14 exactly where the cell in the table of sizes is above the job's gate limit.
use mathlib.Core.Path.{◌≡◌}
use mathlib.Core.Logic.{◌↔◌}
use mathlib.Core.List.{List}
use Prim.Native.Nat.{ℕ, ◌≤◌, ◌<◌}
use Rattle.logic.specs.Answers.{refused}
use Rattle.table.specs.layouts.Layouts.{plain}
use Rattle.record.specs.job_fields.Jobs.{data_wires, gate_limit}
use Rattle.parity.specs.Parity.{values}
use Rattle.outcomes.specs.Outcomes.{search_of}
use Rattle.outcomes.proofs.Facts as Search
use Rattle.sizes.specs.permutations.Sizes.{cell_of}
use Rattle.sizes.proofs.permutations.Promises.{exceeds}
use Rattle.inverse.specs.least.Counting.{Counting}
use Rattle.inverse.proofs.least.Jobs.{arranges, solves, solved}

-- "gets 14 exactly when its cell exceeds the gate limit"
pub none_exceeds : (job : List ℕ) → Counting job → (room : ℕ) → 15 ≤ room
    → (search_of job room ≡ refused 14) ↔ (gate_limit job < cell_of (values job))
none_exceeds job c room wide =
    let none = Search.none_is job c.permutation.sound room wide in
    let above = exceeds (values job) (arranges job c) (gate_limit job) in (
      (λ h. above.1 (λ l w few m. none.0 h l (plain (data_wires job)) (solves job c l w few m))),
      (λ h. none.1 (λ l p s. let q = solved job c l p s in above.0 h l q.0 q.1.0 q.1.1)),
    )
