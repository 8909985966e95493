-- A circuit, or a refusal, by what is known of the text that was read.
use Rattle.std.proofs.Common.{◌≡◌, sym, ap, ◌∙◌, length, length-take-le, rules, Ok, arith}
use borrow.Author.Tests.{leb-true, leb-false}
use Rattle.std.specs.Result.{result_ok}
use Rattle.revlib_reader.specs.reader.Steps.{TextIs, letters_of}
use Rattle.revlib_reader.proofs.Outcomes.{in_order, departed, spare_few, wires_are, crowded, taken}
use Rattle.revlib_reader.proofs.parse.Goals as goal
use Rattle.revlib_reader.proofs.parse.Goals.{In_ok-head}

-- what is known of the text
text : (k : In_ok-head) → TextIs k.args.text.now (Ok k.in_ok-head.field-0)
text k = in_order k.args.text.now _ _ k.scan.ensures (sym k.ok.ensures.value ∙ k.ok_or.ensures.ok_part ∙ ap result_ok k.in_ok-head.was)

cut : (k : In_ok-head) → length (letters_of k.in_ok-head.field-0.head) ≡ k.in_ok-head.field-0.head.wires
cut k = let five : length k.in_ok-head.field-0.head.names ≡ 5 = search rules in let few = k.in_ok-head.field-0.head.few in length-take-le _ k.in_ok-head.field-0.head.names (omega arith)

pub returns-in_err-head : goal.returns-in_err-head
returns-in_err-head c =
    let none = departed c.args.text.now _ c.scan.ensures c.requires (sym c.ok.ensures.value ∙ c.ok_or.ensures.ok_part ∙ ap result_ok c.in_err-head.was) in
    search rules

pub returns-in_err-kept : goal.returns-in_err-kept
returns-in_err-kept c =
    let k = (goal.at.returns-in_err-kept c).In_ok-head in
    let t = text k in
    let many = crowded c.args.text.now _ t.0 _ (t.1 c.requires) (leb-false k.in_ok-head.field-0.body.count 12 c.in_err-kept.ensures.err.0) in
    search rules

pub overflow_sub-result : goal.overflow_sub-result
overflow_sub-result c =
    let k = (goal.at.overflow_sub-result c).In_ok-head in
    let t = text k in
    omega (arith, cut k, ap length t.0.names, wires_are c.args.text.now _ t.0, spare_few c.args.text.now _ t.0)

pub returns : goal.returns
returns c =
    let k = (goal.at.returns c).In_ok-head in
    let t = text k in
    let few = leb-true k.in_ok-head.field-0.body.count 12 c.in_ok-kept.ensures.ok in
    let m = spare_few c.args.text.now _ t.0 in
    let w = k.in_ok-head.field-0.head.few in
    ((omega arith, omega arith), (few, taken c.args.text.now _ t.0 _ (t.1 c.requires) few (cut k)))
