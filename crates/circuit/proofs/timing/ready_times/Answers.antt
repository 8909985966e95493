use Rattle.std.proofs.Common.{sym, ◌∙◌, ap, arith, ◌+◌, ◌*◌, drop}
use native.Mathlib.Nat.{le_trans}
use Rattle.logic.specs.Lists.{along}
use Rattle.logic.proofs.Fold.{along_more, along_done}
use Rattle.circuit.specs.Measure.{hold_byte, hold}
use Rattle.circuit.proofs.Times.{hold_until}
use Rattle.circuit.proofs.timing.ready_times.Goals as goal

pub loop-b-preserved : goal.loop-b-preserved
loop-b-preserved g c =
    let held = hold_byte (g.R.Rate.rate c.args.durations) in
    let until = hold_until c.decode.result c.weight.result c.loop-b.times (255 * c.loop-b.b-index) c.loop-b.invariant.early in
    let next = c.hold-next.ensures ∙ (λ j. hold (c.decode.ensures j) (c.weight.ensures j) c.loop-b.times) in
    record {
      early = λ w. rw c.hold-next.ensures (le_trans (until w) (omega arith));
      left = ap (along held (drop (c.loop-b.b-index + 1) c.args.gates.now)) next
          ∙ sym (along_more held c.args.gates.now c.loop-b.b-index 0 c.loop-b.times (omega arith))
          ∙ c.loop-b.invariant.left;
    }

pub returns : goal.returns
returns g c =
    sym (along_done (hold_byte (g.R.Rate.rate c.args.durations)) c.args.gates.now c.loop-b.b-index c.loop-b.times (omega arith))
    ∙ c.loop-b.invariant.left
