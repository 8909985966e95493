-- First the rules, then the parts of the heading, one after the other.
use Rattle.std.proofs.Common.{◌≡◌, true, ◌+◌, ◌-◌, ◌*◌, sym, ap, ◌∙◌, ℕ, length, drop, arith}
use Rattle.logic.specs.Rules.{both}
use Rattle.revlib.specs.Grammar.{ancilla_count}
use Rattle.revlib.specs.Reading.{starts}
use Rattle.revlib_reader.specs.keywords.Words.{letters_line}
use Rattle.revlib_reader.specs.heading.Inner.{opening, closing, headed, names_ok, said_by}
use Rattle.revlib_reader.proofs.heading.Headings.{three_or_four, heading_refused, heading_accepted}
use Rattle.revlib_reader.proofs.heading.heading_here.Goals as goal
use Rattle.revlib_reader.proofs.heading.heading_here.Goals.{Else-not-heading_ok}

data_wires : (m n : ℕ) (k : ℕ) → m ≡ k → (l : ℕ) → n ≡ l - m → n ≡ l - k
data_wires m n k e l d = d ∙ ap (λ (m : ℕ). l - m) e

-- past the rules: three or four data wires, and the parts of the heading that they make
ok : (e : Else-not-heading_ok) → names_ok e.args.letters.now e.saturating_sub-n.result ≡ true
ok e = sym e.heading_ok.ensures ∙ e.if-not-heading_ok.false

parts : (e : Else-not-heading_ok) → headed e.args.letters.now (said_by e.args.constants) e.args.s.now
    ≡ both (starts (opening (length e.args.letters.now)) e.args.s.now)
    (both (starts (letters_line e.args.letters.now) (drop 34 e.args.s.now))
    (starts (closing (e.saturating_sub-n.result + ancilla_count (said_by e.args.constants)) (said_by e.args.constants)) (drop (35 + 2 * length e.args.letters.now) e.args.s.now)))
parts e = heading_accepted e.args.letters.now (said_by e.args.constants) e.args.s.now e.saturating_sub-n.result (data_wires _ _ _ e.ancillas.ensures.value _ e.saturating_sub-n.ensures) (ok e)

pub returns-then-not-heading_ok : goal.returns-then-not-heading_ok
returns-then-not-heading_ok c =
    sym (heading_refused c.args.letters.now (said_by c.args.constants) c.args.s.now c.saturating_sub-n.result (data_wires _ _ _ c.ancillas.ensures.value _ c.saturating_sub-n.ensures)
    (sym c.heading_ok.ensures ∙ c.if-not-heading_ok.true))

pub here-requires : goal.here-requires
here-requires c = three_or_four c.args.letters.now _ (ok (goal.at.here-requires c).Else-not-heading_ok)

pub returns-then-letters_here : goal.returns-then-letters_here
returns-then-letters_here c = grind (arith, parts (goal.at.returns-then-letters_here c).Else-not-heading_ok)

pub returns-else-letters_here : goal.returns-else-letters_here
returns-else-letters_here c = grind (arith, parts (goal.at.returns-else-letters_here c).Else-not-heading_ok)
