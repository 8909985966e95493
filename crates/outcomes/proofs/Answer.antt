-- For the proofs of public calls: on each way out the answer is the one defined, and the record is at the front of the buffer.
use mathlib.Core.Path.{◌≡◌, refl, sym, ap, ◌∙◌}
use mathlib.Core.Bool.{Bool, true, false}
use mathlib.Core.List.{List, ◌++◌}
use mathlib.Core.Option.{none}
use Rattle.std.specs.Prelude.{Some, None}
use Prim.Native.Nat.{ℕ}
use native.Mathlib.Omega.{arith}
use borrow.Author.Tests.{eqb-true, ne_eqb}
use lib.Dec.{eqb}
use lib.ListN.{length, take, drop}
use Rattle.logic.specs.Rules.{both, pick}
use Rattle.logic.specs.Answers.{Answer, refused, answered}
use Rattle.logic.proofs.Chain.{both_parts}
use Rattle.record.specs.Answers.{number}
use Rattle.record.specs.declared.refusal.Refusal.{Refusal}
use Rattle.record.proofs.Refusals.{number_pos}
use Rattle.record.specs.JobRules.{job_code}
use Rattle.record.specs.job_fields.Jobs.{longer, most_controls, data_wires, ancillas}
use Rattle.circuit.specs.declared.measures.Measures.{Measures}
use Rattle.circuit.specs.measures.Measures.{measures_of}
use Rattle.parity.specs.Parity.{is_odd, table_parity}
use Rattle.parity.proofs.Odd.{odd_is}
use Rattle.problem.specs.declared.order.Best.{Best}
use Rattle.problem.specs.order.View.{choice, view}
use Rattle.problem.specs.Problems.{first_good}
use Rattle.outcomes.specs.Outcomes.{GateSet, problem_over, Found, search_over, reported, written}
use Rattle.outcomes.specs.preflight.Odd.{always_none}
use Rattle.outcomes.specs.Inner.{Lawfuls, told_of}
use Rattle.outcomes.proofs.Facts.{odd_first}

module _ (G : GateSet) (job : List ℕ) (code : ℕ) where
  pub by_code : (code ≡ 0 → ⊥) → search_over G job code ≡ refused code
  unfolding search_over
  by_code n = rw (ne_eqb code 0 n)

  -- a rule was broken
  pub refused_is : (e : Refusal) → number e ≡ code → search_over G job code ≡ refused (number e)
  refused_is e h = by_code (λ z. absurd (omega (arith, number_pos e))) ∙ ap refused (sym h)

  -- nothing was found
  pub none_is : code ≡ 0 → view None ≡ first_good (problem_over G job) → search_over G job code ≡ refused 14
  unfolding search_over view
  none_is kept first = rw (kept, ← first) refl

  -- what is told of the first good choice, with its measures, is the answer
  pub told_is : code ≡ 0 → (b : Best) → view (Some b) ≡ first_good (problem_over G job)
      → (m : Measures) → m ≡ measures_of G.price G.duration (take b.len b.path)
      → told_of job m (view (Some b)) ≡ search_over G job code
  unfolding search_over view choice
  told_is kept b first m e = rw (kept, ← first, e) refl

-- a job that allows two controls is a shorter one
two_shorter : (t : Bool) → pick {A = ℕ} t 3 2 ≡ 2 → t ≡ false
two_shorter true h = absurd (omega arith)
two_shorter false h = refl

pub odd_nothing : (G : GateSet) (job : List ℕ) → job_code job ≡ 0 → Lawfuls job G.gates → always_none job ≡ true
    → first_good (problem_over G job) ≡ none
unfolding always_none
odd_nothing G job sound lawfuls h =
    let n = eqb (data_wires job) 4 in
    let m = eqb (ancillas job) 0 in
    let few = eqb (most_controls job) 2 in
    let k = both_parts (both n m) (both few (is_odd (table_parity job))) h in
    let w = both_parts n m k.0 in
    let o = both_parts few (is_odd (table_parity job)) k.1 in
    odd_first G job sound lawfuls (eqb-true (data_wires job) 4 w.0) (eqb-true (ancillas job) 0 w.1) (odd_is (table_parity job) o.1)
    (two_shorter (longer job) (eqb-true (most_controls job) 2 o.0))

-- what is found is told and written
module _ {o : Answer Found} {f : Found} (found : o ≡ answered f) (k : ℕ) (sized : k ≡ length f.bytes) where
  pub told : answered (record { size = k; measures = f.measures }) ≡ reported o
  told = rw (found, sized)

  pub wrote : (answer out : List ℕ) → out ≡ f.bytes ++ drop k answer → out ≡ written o answer
  wrote answer out e = e ∙ rw (found, sized)
