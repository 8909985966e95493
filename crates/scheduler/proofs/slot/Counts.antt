-- A well-formed job has a gate and a layout, and no more than the tables hold.
use mathlib.Core.Path.{◌≡◌, refl, sym, ap₂, subst}
use mathlib.Core.Bool.{Bool, true}
use mathlib.Core.Logic.{⊎_elim}
use mathlib.Core.List.{List}
use Prim.Native.Nat.{ℕ, ◌≤◌, ◌<◌}
use native.Mathlib.Decide.{ℕ_discrete}
use native.Mathlib.Omega.{arith}
use borrow.Author.Tests.{ltb-true, lt-ltb}
use lib.Dec.{ltb, lit<, lit≤}
use lib.ListN.{length}
use Rattle.logic.specs.Rules.{implies, all_below}
use Rattle.logic.proofs.Chain.{implied}
use Rattle.logic.proofs.Below.{below}
use Rattle.gate.specs.Gates.{lawful, gates_for}
use Rattle.gate.proofs.Tables.{gates_most}
use Rattle.table.specs.layouts.Layouts.{Width, layouts_for, layout_ok}
use Rattle.table.proofs.layouts.Named.{fixed}
use Rattle.record.specs.job_fields.Jobs.{longer, most_controls, data_wires, wires, free_layout}
use Rattle.record.specs.JobRules.{job_code}
use Rattle.record.proofs.Kept.{sound_job, wires_within}
use Rattle.record.proofs.job_fields.Widths.{two_or_three}
use lib.Count.{ones, ones_in}

abbrev some : ℕ → ℕ → Bool
some k w = implies (ltb 0 w) (ltb 0 (length (gates_for k w)))

abbrev all_some : ℕ → Bool
all_some k = all_below 6 (some k)

all_some_law : all_below 4 all_some ≡ true
unfolding gates_for lawful ones ones_in
all_some_law = refl

-- how many controls a gate may have, and on how many wires
pub shape : (job : List ℕ) → job_code job ≡ 0 → ((2 ≤ most_controls job) × (most_controls job ≤ 3)) × ((3 ≤ wires job) × (wires job ≤ 5))
shape job sound = (two_or_three (longer job), wires_within job sound)

pub gates_few : (job : List ℕ) → job_code job ≡ 0
    → (0 < length (gates_for (most_controls job) (wires job))) × (length (gates_for (most_controls job) (wires job)) ≤ 75)
gates_few job sound =
    let k = most_controls job in
    let w = wires job in
    let s = shape job sound in
    let most = s.0.1 in
    let least = s.1.0 in
    let wide = s.1.1 in (
      ltb-true 0 (length (gates_for k w))
          (implied (ltb 0 w) (ltb 0 (length (gates_for k w))) (below 6 (some k) (below 4 all_some all_some_law k (omega arith)) w (omega arith)) (lt-ltb 0 w (omega arith))),
      gates_most k w most wide,
    )

abbrev Few : List ℕ → Type 0
Few l = (0 < length l) × (length l ≤ 24)

free_three : Few (layouts_for 3 1)
unfolding layouts_for layout_ok
free_three = (lit< tt, lit≤ tt)

free_four : Few (layouts_for 4 1)
unfolding layouts_for layout_ok
free_four = (lit< tt, lit≤ tt)

few : (n free : ℕ) → Width n → Few (layouts_for n free)
few n free w = by_free (ℕ_discrete free 1)
  where
    by_free : Dec (free ≡ 1) → Few (layouts_for n free)
    by_free (no k) = subst Few (sym (fixed n free k)) (lit< tt, lit≤ tt)
    by_free (yes e) =
        ⊎_elim
        (λ (h : n ≡ 3). subst Few (sym (ap₂ layouts_for h e)) free_three)
        (λ (h : n ≡ 4). subst Few (sym (ap₂ layouts_for h e)) free_four)
        w

pub layouts_few : (job : List ℕ) → job_code job ≡ 0
    → (0 < length (layouts_for (data_wires job) (free_layout job))) × (length (layouts_for (data_wires job) (free_layout job)) ≤ 24)
layouts_few job sound = few (data_wires job) (free_layout job) (sound_job job sound).width
