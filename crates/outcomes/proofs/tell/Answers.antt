use mathlib.Core.Path.{◌≡◌, refl, ap, ◌∙◌}
use mathlib.Core.Bool.{Bool}
use mathlib.Core.List.{List, ◌++◌}
use Prim.Native.Nat.{ℕ}
use native.Mathlib.Omega.{arith}
use borrow.Author.Rules.{rules}
use lib.ListN.{length, take, drop}
use Rattle.logic.specs.Answers.{Answer, answered}
use Rattle.circuit.specs.declared.measures.Measures.{Measures}
use Rattle.record.specs.job_fields.Jobs.{longer, data_wires, ancillas}
use Rattle.record.specs.circuit_fields.Circuits.{circuit_bytes}
use Rattle.record.proofs.writing.Copied.{record_size_law}
use Rattle.problem.specs.order.View.{choice, view}
use Rattle.outcomes.specs.Outcomes.{record_of}
use Rattle.outcomes.specs.declared.Reported.{Reported}
use Rattle.outcomes.proofs.tell.Goals as goal

-- the record that the code writes is the job's
record_is : (job : List ℕ) (n m : ℕ) (mark : Bool) (p : ℕ) (l : List ℕ) → n ≡ data_wires job → m ≡ ancillas job → mark ≡ longer job
    → circuit_bytes n m mark p l ≡ record_of job p l
unfolding record_of
record_is job n m mark p l hn hm hk = rw (hn, hm, hk) refl

abbrev reply_with : ℕ → Measures → Answer Reported
reply_with k m = answered (record { size = k; measures = m })

pub returns-in_err-best-clause-result_value : goal.returns-in_err-best-clause-result_value
unfolding view
returns-in_err-best-clause-result_value c = let n = c.in_err-best.ensures.err in let r = n.1 in rw n.0 (search rules)

pub returns-in_err-best-clause-answer_after : goal.returns-in_err-best-clause-answer_after
unfolding view
returns-in_err-best-clause-answer_after c = let n = c.in_err-best.ensures.err in rw n.0 refl

pub write_record-size-requires : goal.write_record-size-requires
unfolding ancillas
write_record-size-requires c =
    let e = c.ancillas-m.ensures in
    ((omega arith, omega arith), (c.in_ok-best.best.short, c.requires))

pub returns : goal.returns
unfolding choice view
returns c =
    let best = c.in_ok-best.best in
    let held = c.in_ok-best.ensures.ok in
    let long : length best.path ≡ 12 = search rules in
    let short = best.short in
    let is = record_is c.args.job.now c.data_wires-n.result c.ancillas-m.result c.longer-mark.result best.layout (take best.len best.path)
    c.data_wires-n.ensures.value c.ancillas-m.ensures c.longer-mark.ensures in
    let bytes = circuit_bytes c.data_wires-n.result c.ancillas-m.result c.longer-mark.result best.layout (take best.len best.path) in
    let whole = record_size_law c.data_wires-n.result c.ancillas-m.result c.longer-mark.result best.layout best.path best.len (omega arith) in
    let size = c.write_record-size.ensures.value ∙ whole ∙ ap length is in
    rw held (record {
      result_value = ap (λ (k : ℕ). reply_with k c.args.measures) size;
      result_bound = omega arith;
      answer_after = c.write_record-size.ensures.answer_after
          ∙ ap (λ (k : ℕ). bytes ++ drop k c.args.answer.now) whole
          ∙ ap (λ (l : List ℕ). l ++ drop (length l) c.args.answer.now) is;
      none_alone = search rules;
    })
