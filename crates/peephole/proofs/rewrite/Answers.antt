-- A rule broken, or the list settled and what it no longer needs cleared.
use mathlib.Core.Path.{◌≡◌, sym, ◌∙◌, subst}
use native.Mathlib.Omega.{arith}
use borrow.Author.Rules.{rules}
use Rattle.record.specs.Answers.{number}
use Rattle.table.specs.layouts.Layouts.{Width}
use Rattle.peephole.specs.windows.Windows.{rewritten}
use Rattle.peephole.specs.windows.Listings.{rewrite_code}
use Rattle.peephole.proofs.windows.Promises.{code_sound}
use Rattle.peephole.proofs.windows.Calls.{refused_with, finishing}
use Rattle.peephole.proofs.rewrite.Goals as goal
use Rattle.peephole.proofs.rewrite.Goals.{In_err-check_rewrite, In_ok-check_rewrite}

-- the check of the call, in its own numbers
broken : (c : In_err-check_rewrite) → number c.in_err-check_rewrite.field-0.0 ≡ rewrite_code c.args.wires c.args.window c.args.list.now
broken c = c.in_err-check_rewrite.ensures ∙ (λ i. rewrite_code (c.from-n.ensures i) (c.from-k.ensures i) c.args.list.now)

kept : (c : In_ok-check_rewrite) → rewrite_code c.args.wires c.args.window c.args.list.now ≡ 0
kept c = sym (c.in_ok-check_rewrite.ensures ∙ (λ i. rewrite_code (c.from-n.ensures i) (c.from-k.ensures i) c.args.list.now))

pub returns-in_err-check_rewrite-clause-result_value : goal.returns-in_err-check_rewrite-clause-result_value
returns-in_err-check_rewrite-clause-result_value c =
    let r = refused_with c.args.wires c.args.window c.args.prices c.args.list.now _
    (broken (goal.at.returns-in_err-check_rewrite-clause-result_value c).In_err-check_rewrite) in
    rw (sym r.0) (search rules)

pub returns-in_err-check_rewrite-clause-list_after : goal.returns-in_err-check_rewrite-clause-list_after
returns-in_err-check_rewrite-clause-list_after c =
    (refused_with c.args.wires c.args.window c.args.prices c.args.list.now _
    (broken (goal.at.returns-in_err-check_rewrite-clause-list_after c).In_err-check_rewrite)).1

pub settle-count-requires-clause-le_window : goal.settle-count-requires-clause-le_window
settle-count-requires-clause-le_window c =
    let h = code_sound c.args.wires c.args.window c.args.list.now (kept (goal.at.settle-count-requires-clause-le_window c).In_ok-check_rewrite) in
    let v = c.from-k.ensures in
    let two = h.two in
    let four = h.four in
    (omega arith, omega arith)

pub settle-count-requires-clause-width : goal.settle-count-requires-clause-width
settle-count-requires-clause-width c =
    let h = code_sound c.args.wires c.args.window c.args.list.now (kept (goal.at.settle-count-requires-clause-width c).In_ok-check_rewrite) in
    subst Width (sym c.from-n.ensures) h.width

pub returns-clause-result_value : goal.returns-clause-result_value
returns-clause-result_value c =
    (finishing c.args.wires c.args.window c.args.prices c.args.list.now c.settle-count.result c.settle-count.new.list c.clear.new.list
    (kept (goal.at.returns-clause-result_value c).In_ok-check_rewrite) c.settle-count.ensures.upper_bound c.settle-count.auto.list
    (c.settle-count.ensures.list_after ∙ (λ i. rewritten (c.from-n.ensures i) (c.from-k.ensures i) c.args.prices c.args.list.now))
    c.clear.ensures).0

pub returns-clause-list_after : goal.returns-clause-list_after
returns-clause-list_after c =
    (finishing c.args.wires c.args.window c.args.prices c.args.list.now c.settle-count.result c.settle-count.new.list c.clear.new.list
    (kept (goal.at.returns-clause-list_after c).In_ok-check_rewrite) c.settle-count.ensures.upper_bound c.settle-count.auto.list
    (c.settle-count.ensures.list_after ∙ (λ i. rewritten (c.from-n.ensures i) (c.from-k.ensures i) c.args.prices c.args.list.now))
    c.clear.ensures).1
