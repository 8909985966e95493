-- Each answer is turned into its line; the record found fits the fifteen bytes lent. Where the slot was finished, that is the line of its
-- owner's job.
use Rattle.std.proofs.Common.{◌≡◌, sym, ap, ◌∙◌, List, ℕ, ◌≤◌, length, length-take-le, take, arith}
use Rattle.text.specs.pieces.Text.{refused_line, in_front}
use Rattle.text.proofs.pieces.Pieces.{refused_short, found_short}
use Rattle.outcomes.proofs.Told.{when_refused, when_found}
use Rattle.scheduler.specs.states.States.{collect_of}
use Rattle.scheduler.specs.states.Calls.{view_state}
use Rattle.slots.proofs.Keeping.{line_refused, line_found, finished_number}
use Rattle.slots.proofs.finished_line.Goals as goal

-- a record of n numbers that fits the fifteen bytes is n numbers long
short : (n : ℕ) (answer : List ℕ) → n ≤ 15 → length answer ≡ 15 → length (take n answer) ≤ 15
short n answer s k = rw (length-take-le n answer (omega arith)) s

pub returns-in_default : goal.returns-in_default
returns-in_default c =
    record {
      size_bound = rw c.refused_line.ensures.value (refused_short c.from.result);
      slots_value = c.collect.ensures.slots_value;
      by_index = λ jobs owners k.
          let o = collect_of (view_state c.args.slots.now) c.args.which 15 in
          let e = when_refused o c.collect.result c.in-Err.r c.collect.ensures.answer_value c.in-Err.is in
          let l = line_refused k c.args.which _ c.requires.which_bound e (finished_number c.in-Err.r c.in_default.not-SlotUnfinished) in
          let n = ap refused_line c.from.ensures ∙ sym l in
          (c.refused_line.ensures.value ∙ ap length n, c.refused_line.ensures.out_after ∙ ap (λ (t : List ℕ). in_front t c.args.out.now) n);
    }

pub returns-in-Ok-clause-size_bound : goal.returns-in-Ok-clause-size_bound
returns-in-Ok-clause-size_bound c =
    let k = c.collect in
    rw c.found_line.ensures.value
    (found_short _ (take c.in-Ok.found.size k.new.answer) (short c.in-Ok.found.size k.new.answer c.in-Ok.ensures.answer_bound k.auto.answer))

pub returns-in-Ok-clause-by_index : goal.returns-in-Ok-clause-by_index
returns-in-Ok-clause-by_index c jobs owners k =
    let r = c.collect in
    let o = collect_of (view_state c.args.slots.now) c.args.which 15 in
    let e = when_found o r.result _ _ r.new.answer r.ensures.answer_value c.in-Ok.is r.ensures.answer_after in
    let l = line_found k c.args.which _ c.requires.which_bound e in
    (rw l c.found_line.ensures.value, rw l c.found_line.ensures.out_after)
