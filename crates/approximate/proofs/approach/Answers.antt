use mathlib.Core.Path.{◌≡◌, sym, ap, ◌∙◌}
use mathlib.Core.List.{List}
use mathlib.Core.Option.{none}
use mathlib.Core.Bool.{true, false, true≢false}
use Rattle.std.specs.Prelude.{Option, Some, None}
use Rattle.std.specs.Option.{is_some}
use Rattle.problem.specs.declared.order.Best.{Best}
use Rattle.approximate.specs.Calls.{fewest_for, closest_for}
use Prim.Native.Nat.{ℕ, ◌+◌, ◌≤◌, ◌<◌}
use native.Mathlib.Decide.{ℕ_discrete}
use native.Mathlib.Omega.{arith}
use Rattle.record.specs.job_fields.Jobs.{data_wires, rows}
use Rattle.problem.specs.order.View.{choice, view}
use Rattle.problem.specs.Problems.{first_good}
use Rattle.near_misses.specs.misses.Misses.{closest_choice}
use Rattle.near_misses.proofs.misses.Fewest.{fewest_found, fewest_last}
use Rattle.outcomes.specs.Outcomes.{problem_of}
use Rattle.approximate.proofs.Posed.{near, none_first}
use Rattle.approximate.proofs.approach.Goals as goal

-- searches that allow k misses or fewer found nothing
by_number : (job : List ℕ) (k : ℕ) → first_good (near job k) ≡ none → ((j : ℕ) → j < k → first_good (near job j) ≡ none) → (j : ℕ) → j < k + 1
    → Dec (j ≡ k) → first_good (near job j) ≡ none
by_number job k e f j l (yes s) = ap (λ (m : ℕ). first_good (near job m)) s ∙ e
by_number job k e f j l (no s) = f j (omega arith)

-- the incumbent that allows k misses: a circuit, or none
module _ (job : List ℕ) (k : ℕ) where
  some_now : k ≤ 64 → ((j : ℕ) → j < k → first_good (near job j) ≡ none) → (best : Option Best) → view best ≡ first_good (near job k)
      → true ≡ is_some best → (k ≡ fewest_for job) × (view best ≡ closest_for job)
  unfolding closest_choice view
  some_now few earlier None first t = absurd (true≢false t)
  some_now few earlier (Some b) first t =
      let e = fewest_found (data_wires job) (rows job) (problem_of job) k few earlier (choice b) (sym first) in
      (e, first ∙ ap (λ (m : ℕ). first_good (near job m)) e)

  none_now : (best : Option Best) → view best ≡ first_good (near job k) → false ≡ is_some best → first_good (near job k) ≡ none
  unfolding view
  none_now None first t = sym first
  none_now (Some b) first t = absurd (true≢false (sym t))

pub loop-k-init : goal.loop-k-init
loop-k-init c = (c.first_good-best.ensures ∙ sym (none_first c.args.job.now), λ j h. absurd (omega arith))

-- something is found
pub returns-then-is_some : goal.returns-then-is_some
returns-then-is_some c =
    some_now c.args.job.now c.loop-k.k (omega (arith, c.loop-k.auto)) c.loop-k.invariant.1 c.loop-k.best c.loop-k.invariant.0
    (sym c.if-is_some.true ∙ c.is_some.ensures)

pub loop-k-preserved : goal.loop-k-preserved
loop-k-preserved c =
    let missed = none_now c.args.job.now c.loop-k.k c.loop-k.best c.loop-k.invariant.0 (sym c.if-is_some.false ∙ c.is_some.ensures) in
    (c.at_most-next.ensures, λ j l. by_number c.args.job.now c.loop-k.k missed c.loop-k.invariant.1 j l (ℕ_discrete j c.loop-k.k))

-- all of a table's bits may be missed
pub returns : goal.returns
unfolding closest_choice
returns c =
    let h = c.loop-k-test.false in
    let e = fewest_last (data_wires c.args.job.now) (rows c.args.job.now) (problem_of c.args.job.now) c.loop-k.k (omega (arith, c.loop-k.auto)) c.loop-k.invariant.1 (omega (arith, c.loop-k.auto)) in
    let last : c.loop-k.k ≡ 64 = omega (arith, c.loop-k.auto) in
    (sym last ∙ e, c.loop-k.invariant.0 ∙ ap (λ (m : ℕ). first_good (near c.args.job.now m)) e)
