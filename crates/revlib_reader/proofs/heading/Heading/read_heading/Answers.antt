-- What was read off the text, and the test of what it makes.
use Rattle.std.proofs.Common.{◌∙◌, ap, sym, List, ℕ}
use Rattle.revlib_reader.specs.heading.Inner.{headed, said_by}
use Rattle.revlib_reader.proofs.heading.Headings.{heading_sound, heading_broken}
use Rattle.revlib_reader.proofs.heading.Heading.read_heading.Goals as goal

pub returns-then-heading_here : goal.returns-then-heading_here
returns-then-heading_here c =
    heading_sound c.args.s.now _ _ c.names.ensures c.name_count-wires.ensures.value c.read-constants.ensures c.ancillas.ensures.value c.end.ensures
    (sym (c.heading_here.ensures ∙ ap (λ (l : List ℕ). headed l (said_by c.read-constants.result) c.args.s.now) c.letters.ensures.value) ∙ c.if-heading_here.true)

pub returns-else-heading_here : goal.returns-else-heading_here
returns-else-heading_here c =
    heading_broken c.args.s.now _ _ c.names.ensures c.name_count-wires.ensures.value c.read-constants.ensures c.ancillas.ensures.value c.end.ensures
    (sym (c.heading_here.ensures ∙ ap (λ (l : List ℕ). headed l (said_by c.read-constants.result) c.args.s.now) c.letters.ensures.value) ∙ c.if-heading_here.false)
