use mathlib.Core.Path.{sym, ap, ◌∙◌}
use Prim.Native.Nat.{ℕ, ◌+◌}
use lib.ListN.{length}
use Rattle.bounds.specs.sums.Sums.{put}
use Rattle.bounds.proofs.sums.Sums.{put_length, from_turn, from_done}
use Rattle.bounds.proofs.sums.put_from.Goals as goal

pub loop-entry-preserved : goal.loop-entry-preserved
loop-entry-preserved c =
    let t = from_turn c.args.i c.args.entries.now c.loop-entry.sums _ _ _ c.loop-entry-test.true (c.put.ensures ∙ ap (λ (w : ℕ). put (c.args.i + w) c.loop-entry.sums) c.stride.ensures) in
    (ap length c.put.ensures ∙ simp put_length c.loop-entry.invariant.0, t ∙ c.loop-entry.invariant.1)

pub returns : goal.returns
returns c = sym (from_done c.args.i c.args.entries.now c.loop-entry.sums _ c.loop-entry-test.false) ∙ c.loop-entry.invariant.1
