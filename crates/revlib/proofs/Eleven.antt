-- Neither reading a text nor writing one is refused with 11.
use mathlib.Core.Path.{◌≡◌}
use mathlib.Core.Bool.{Bool, true, false, not}
use mathlib.Core.List.{List}
use mathlib.Core.Option.{Option, none, some}
use Prim.Native.Nat.{ℕ}
use native.Mathlib.Omega.{arith}
use lib.Dec.{eqb, leb}
use lib.ListN.{length}
use Rattle.logic.specs.Rules.{pick}
use Rattle.logic.specs.Answers.{refused, answered}
use Rattle.logic.proofs.Chain.{rule_never, and_then_never}
use Rattle.table.specs.layouts.Layouts.{plain}
use Rattle.record.specs.job_fields.Jobs.{data_wires}
use Rattle.record.specs.circuit_rules.CircuitRules.{circuit_code}
use Rattle.record.specs.circuit_fields.Circuits.{marked, layout_of}
use Rattle.record.proofs.Never.{one_number, no_number, picked_never}
use Rattle.record.proofs.circuit_rules.Eleven.{circuit_never}
use Rattle.revlib.specs.Grammar.{Description, record_of}
use Rattle.revlib.specs.Reading.{parse, outcome_of, read_of}
use Rattle.revlib.specs.Writing.{Reply, text_of, text_code, write_of}

pub read_never : (text : List ℕ) (room : ℕ) → read_of text room ≡ refused 11 → ⊥
unfolding read_of
read_never text room =
    picked_never 11 (leb 15 room) _ (refused 13)
    (picked_never 11 (leb (length text) 4096) (outcome_of (parse text)) (refused 22) (by_parse (parse text)) (λ h. omega (arith, one_number 11 22 h)))
    (λ h. omega (arith, one_number 11 13 h))
  where
    by_parse : (o : Option Description) → outcome_of o ≡ refused 11 → ⊥
    by_parse none h = omega (arith, one_number 11 22 h)
    by_parse (some d) h =
        picked_never 11 (leb (length d.lines) 12) (answered (record_of d)) (refused 23) (no_number 11 (record_of d))
        (λ k. omega (arith, one_number 11 23 k)) h

-- write_real: neither alone nor with the length that is needed
text_code_never : (c : List ℕ) → text_code c ≡ 11 → ⊥
unfolding text_code
text_code_never c =
    and_then_never 11 (circuit_code c) _ (circuit_never c)
    (rule_never 11 (not (marked c)) 8 _ (λ e. omega arith)
    (rule_never 11 (eqb (layout_of c) (plain (data_wires c))) 15 0 (λ e. omega arith) (λ e. omega arith)))

-- a reply: that the text is written or the buffer too short, or the code
abbrev reply : List ℕ → ℕ → Bool → Bool → Reply (List ℕ)
reply text code sound fits = pick sound (pick fits (Reply.answered text) (Reply.short 13 (length text))) (Reply.refused code)

replied_never : (text : List ℕ) (code : ℕ) (sound fits : Bool) → (code ≡ 11 → ⊥)
    → (reply text code sound fits ≡ Reply.refused 11 → ⊥) × ((needed : ℕ) → reply text code sound fits ≡ Reply.short 11 needed → ⊥)
replied_never text code true true n =
    ((λ h. let z : ◌≡◌ {A = ℕ} 0 1 = cc in omega arith), (λ needed h. let z : ◌≡◌ {A = ℕ} 0 1 = cc in omega arith))
replied_never text code true false n =
    ((λ h. let z : ◌≡◌ {A = ℕ} 0 1 = cc in omega arith), (λ needed h. let z : ◌≡◌ {A = ℕ} 13 11 = cc in omega arith))
replied_never text code false fits n =
    ((λ h. let z : code ≡ 11 = cc in n z), (λ needed h. let z : ◌≡◌ {A = ℕ} 0 1 = cc in omega arith))

pub write_never : (c : List ℕ) (room : ℕ)
    → (write_of c room ≡ Reply.refused 11 → ⊥) × ((needed : ℕ) → write_of c room ≡ Reply.short 11 needed → ⊥)
unfolding write_of
write_never c room = replied_never (text_of c) (text_code c) (eqb (text_code c) 0) (leb (length (text_of c)) room) (text_code_never c)
