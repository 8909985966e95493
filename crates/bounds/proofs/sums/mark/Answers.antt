use mathlib.Core.Path.{◌∙◌}
use Rattle.problem.specs.Entries.{entry_prices}
use Rattle.bounds.proofs.sums.Sums.{marked_first, marked_from, marked_skip}
use Rattle.bounds.proofs.sums.mark.Goals as goal
use Rattle.bounds.proofs.sums.mark.Goals.{then-extends, else-extends}

pub loop-place-init : goal.loop-place-init
loop-place-init c = marked_first (entry_prices c.args.entries.now) c.args.limit c.args.sums.now _ c.put.ensures

pub loop-place-preserved : goal.loop-place-preserved
loop-place-preserved c =
    elim c.if-extends.branch [
      | then-extends w ↦ marked_from (entry_prices c.args.entries.now) c.args.limit _ c.loop-place.place c.loop-place.sums c.loop-place.invariant c.if-extends.sums
          (w.sums-is ∙ w.put_from.ensures)
      | else-extends w ↦ marked_skip (entry_prices c.args.entries.now) c.args.limit _ c.loop-place.place c.loop-place.sums c.loop-place.invariant c.if-extends.sums
          w.sums-is (c.extends.ensures.fact w.if-extends.false)
    ]
