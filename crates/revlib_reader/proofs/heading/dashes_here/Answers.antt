-- The three tests, one after the other.
use Rattle.std.proofs.Common.{◌≡◌, true, false, sym, ap, ◌∙◌, drop}
use mathlib.Core.Bool.{false≢true}
use Rattle.logic.specs.Words.{bytes}
use Rattle.revlib.specs.Reading.{starts}
use Rattle.revlib_reader.specs.heading.Inner.{dashes}
use Rattle.revlib_reader.proofs.heading.Headings.{dashes_pieces}
use Rattle.revlib_reader.proofs.heading.dashes_here.Goals as goal
use Rattle.revlib_reader.proofs.heading.dashes_here.Goals.{then-starts, else-starts}

pub returns-then-starts-2 : goal.returns-then-starts-2
returns-then-starts-2 c = elim c.if-starts.branch [
  | then-starts w ↦
      let a : starts (bytes ".constants ") c.args.s.now ≡ true = sym c.starts.ensures ∙ w.if-starts.true in
      let b : starts (dashes c.args.n) (drop 11 c.args.s.now) ≡ true = rw (← w.rest.ensures, ← w.dashes.ensures) (sym w.starts-then-starts.ensures ∙ sym w.value-is ∙ c.if-starts-2.true) in
      rw (dashes_pieces c.args.n c.args.end.now c.args.s.now, a, b) (c.starts-then-starts-2.ensures ∙ ap (starts c.args.end.now) c.rest-then-starts-2.ensures)
  | else-starts w ↦ absurd (false≢true (sym (w.value-is ∙ w.if-starts.false) ∙ c.if-starts-2.true))
]

pub returns-else-starts-2 : goal.returns-else-starts-2
returns-else-starts-2 c = elim c.if-starts.branch [
  | then-starts w ↦
      let a : starts (bytes ".constants ") c.args.s.now ≡ true = sym c.starts.ensures ∙ w.if-starts.true in
      let b : starts (dashes c.args.n) (drop 11 c.args.s.now) ≡ false = rw (← w.rest.ensures, ← w.dashes.ensures) (sym w.starts-then-starts.ensures ∙ sym w.value-is ∙ c.if-starts-2.false) in
      rw (dashes_pieces c.args.n c.args.end.now c.args.s.now, a, b) c.if-starts-2.false
  | else-starts w ↦
      let a : starts (bytes ".constants ") c.args.s.now ≡ false = sym c.starts.ensures ∙ w.if-starts.false in
      rw (dashes_pieces c.args.n c.args.end.now c.args.s.now, a) (w.value-is ∙ w.if-starts.false)
]
