use mathlib.Core.Path.{◌≡◌, sym, ap, ◌∙◌, subst}
use mathlib.Core.List.{List}
use Prim.Native.Nat.{ℕ, suc}
use native.Mathlib.Numerals.{add-one}
use native.Mathlib.Omega.{arith}
use lib.ListN.{set, length-set}
use Rattle.sizes.specs.permutations.Sizes.{twelve}
use Rattle.sizes.specs.permutations.Inner.{grown, Swept}
use Rattle.sizes.proofs.permutations.Levels.{swept_turn}
use Rattle.sizes.proofs.grow.Goals as goal

pub loop-r-preserved : goal.loop-r-preserved
loop-r-preserved c =
    let h = c.loop-r-test.true in
    let e : c.grown.result ≡ grown twelve c.loop-r.cells c.loop-r.r c.args.k
    = c.grown.ensures ∙ ap (λ (g : List ℕ). grown g c.loop-r.cells c.loop-r.r c.args.k) c.requires.gates_value in (
      length-set c.loop-r.cells c.loop-r.r c.grown.result ∙ c.loop-r.invariant.0,
      λ level.
          subst (λ (n : ℕ). Swept (suc c.args.k) n (set c.loop-r.cells c.loop-r.r c.grown.result)) (sym (add-one c.loop-r.r))
          (swept_turn c.args.k c.loop-r.r c.loop-r.cells c.requires.k_bound (omega arith) (c.loop-r.invariant.1 level) c.grown.result c.loop-r.invariant.0 e),
    )
