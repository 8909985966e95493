-- The node after one more gate is where the longer list leads: its columns, times, cost, and needed heavy gates.
use borrow.Author.Rules.{rules}
use mathlib.Core.Path.{refl, ap, ◌∙◌}
use native.Mathlib.Nat.{le_trans}
use native.Mathlib.Omega.{arith}
use Prim.Native.Nat.{◌*◌, ◌<◌}
use lib.ListN.{length-set}
use Rattle.gate.specs.declared.Gate.{Gate}
use Rattle.circuit.specs.Measure.{hold}
use Rattle.circuit.proofs.Times.{hold_until}
use Rattle.walk.proofs.node.Nodes.{follows, follow_list}
use Rattle.walk.proofs.advance.advance.Goals as goal

pub returns-clause-follows : goal.returns-clause-follows
returns-clause-follows c =
    let d = c.hold.ensures ∙ ap (λ (g : Gate). hold g c.args.entry.duration c.args.s.times) c.decode.ensures in
    let h = c.requires.width.1 in
    let bytes = c.well_formed.1.1.1.1.0 in
    let byte : c.args.entry.duration < 256 = search rules in
    let k = c.requires.small.cheap in λ P asks at is ht.
    let step = c.step-columns.ensures c.args.task.controls c.args.task.wanted asks.fair.few (asks.kinds c.args.entry.gate is.listed) ht in
    follows P c.args.s _ c.args.entry at is (omega (arith, c.requires.small.sized)) refl refl step d refl
    (c.still_needed.ensures.needs P _ asks (follow_list P c.args.s c.args.entry at is).0 (step ∙ (follow_list P c.args.s c.args.entry at is).1) at.needing) c.step.ensures

pub returns-clause-len_value : goal.returns-clause-len_value
returns-clause-len_value c =
    let d = c.hold.ensures ∙ ap (λ (g : Gate). hold g c.args.entry.duration c.args.s.times) c.decode.ensures in
    let h = c.requires.width.1 in
    let bytes = c.well_formed.1.1.1.1.0 in
    let byte : c.args.entry.duration < 256 = search rules in
    let k = c.requires.small.cheap in (
      refl,
      record {
        sized = length-set c.args.s.path c.args.s.len c.args.entry.gate ∙ c.requires.small.sized;
        early = λ w. rw d (le_trans (hold_until _ _ c.args.s.times (255 * c.args.s.len) c.requires.small.early w) (omega arith));
        cheap = omega arith;
        few = c.still_needed.ensures.upper_bound;
      },
    )
