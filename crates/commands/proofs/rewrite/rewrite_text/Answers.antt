-- A refusal and what it means, or both lists' gates and costs and the new list.
use mathlib.Core.Path.{◌≡◌, sym, ap, ◌∙◌}
use mathlib.Core.List.{List}
use Prim.Native.Nat.{ℕ, ◌≤◌}
use native.Mathlib.Omega.{arith}
use lib.ListN.{length, take}
use lib.Seq.{take-length, length-take-le}
use Rattle.logic.specs.Answers.{answered}
use Rattle.text.specs.pieces.Text.{in_front}
use Rattle.reports.specs.refusal.Report.{refused_text}
use Rattle.reports.proofs.refusal.Short.{refused_short}
use Rattle.peephole.specs.windows.Windows.{cost_at}
use Rattle.peephole.specs.windows.Listings.{rewrite_of, list_left}
use Rattle.record.specs.Answers.{number, reply}
use Rattle.printed.specs.rewriting.Rewriting.{wires_in, window_in, prices_in, rewrite_text, rewritten_text}
use Rattle.printed.proofs.rewriting.Printed.{text_refused, left_within, left_few, text_rewritten}
use Rattle.commands.proofs.rewrite.rewrite_text.Goals as goal
use Rattle.commands.proofs.rewrite.rewrite_text.Goals.{In-Ok, In-Err}

-- a list that was rewritten, and how many gates are left
module _ (z : In-Ok) where
  abbrev head : List ℕ
  head = z.args.head.now

  abbrev list : List ℕ
  list = z.args.list.now

  abbrev new : List ℕ
  new = z.rewrite.new.list

  abbrev count : ℕ
  count = z.in-Ok.left

  answer : answered count ≡ rewrite_of (wires_in head) (window_in head) (prices_in head) list
  answer =
      sym (ap reply z.in-Ok.is) ∙ z.rewrite.ensures.result_value
      ∙ (λ i. rewrite_of (z.at-wires.ensures i) (z.at-window.ensures i) (z.prices_in-prices.ensures i) list)

  left : new ≡ list_left (wires_in head) (window_in head) (prices_in head) list
  left =
      z.rewrite.ensures.list_after ∙ (λ i. list_left (z.at-wires.ensures i) (z.at-window.ensures i) (z.prices_in-prices.ensures i) list)

  within : count ≤ length new
  within = left_within head list count new answer left

  few : length (take count new) ≤ 4096
  few = rw (length-take-le count new within) (left_few head list count new answer left)

  -- what is written is what is printed
  same : rewritten_text (length list) z.list_cost-cost.result z.prices_in-prices.result (take count new) ≡ rewrite_text head list
  same =
      let p = z.prices_in-prices.ensures in
      let l = take-length list in
      let c = z.list_cost-cost.ensures ∙ (λ i. cost_at (p i) (l i)) in
      (λ i. rewritten_text (length list) (c i) (p i) (take count new)) ∙ sym (text_rewritten head list count new answer left)

pub slice_bounds-put_rewritten-end : goal.slice_bounds-put_rewritten-end
slice_bounds-put_rewritten-end c = within (goal.at.slice_bounds-put_rewritten-end c).In-Ok

pub slice_bounds-put_rewritten-end-in-Ok : goal.slice_bounds-put_rewritten-end-in-Ok
slice_bounds-put_rewritten-end-in-Ok c =
    sym (length-take-le c.in-Ok.left c.rewrite.new.list (within (goal.at.slice_bounds-put_rewritten-end-in-Ok c).In-Ok))

pub put_rewritten-requires-clause-len_bound : goal.put_rewritten-requires-clause-len_bound
put_rewritten-requires-clause-len_bound c = few (goal.at.put_rewritten-requires-clause-len_bound c).In-Ok

-- a rule broken
broken : (z : In-Err) → rewrite_text z.args.head.now z.args.list.now ≡ refused_text (number z.in-Err.e)
broken z =
    let told = z.rewrite.ensures.result_value
    ∙ (λ i. rewrite_of (z.at-wires.ensures i) (z.at-window.ensures i) (z.prices_in-prices.ensures i) z.args.list.now) in
    text_refused z.args.head.now z.args.list.now (number z.in-Err.e) (sym (ap reply z.in-Err.is) ∙ told)

pub returns-in-Err-clause-out_after : goal.returns-in-Err-clause-out_after
returns-in-Err-clause-out_after c = rw (broken (goal.at.returns-in-Err-clause-out_after c).In-Err, ← c.from.ensures) c.refused_text.ensures.out_after

pub returns-in-Err-clause-value : goal.returns-in-Err-clause-value
returns-in-Err-clause-value c = rw (broken (goal.at.returns-in-Err-clause-value c).In-Err, ← c.from.ensures) c.refused_text.ensures.value

pub returns-in-Err-clause-upper_bound : goal.returns-in-Err-clause-upper_bound
returns-in-Err-clause-upper_bound c = omega (arith, refused_short c.from.result, c.refused_text.ensures.value)

pub returns-in-Ok-clause-out_after : goal.returns-in-Ok-clause-out_after
returns-in-Ok-clause-out_after c =
    c.put_rewritten.ensures.out_after
    ∙ ap (λ (t : List ℕ). in_front t c.args.out.now) (same (goal.at.returns-in-Ok-clause-out_after c).In-Ok)

pub returns-in-Ok-clause-value : goal.returns-in-Ok-clause-value
returns-in-Ok-clause-value c = c.put_rewritten.ensures.value ∙ ap length (same (goal.at.returns-in-Ok-clause-value c).In-Ok)
