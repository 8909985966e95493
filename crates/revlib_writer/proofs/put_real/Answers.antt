-- The heading is written, and the body after it.
use Rattle.std.proofs.Common.{ap₂}
use Rattle.text.proofs.pieces.Pieces.{more}
use Rattle.revlib_writer.specs.heading.Heading.{heading_for}
use Rattle.revlib_writer.proofs.Texts.{text_parts}
use Rattle.revlib_writer.proofs.put_real.Goals as goal

pub returns : goal.returns
returns c =
    let body-wrote = rw c.gate_list.ensures at c.put_body.ensures in
    let head-wrote = rw (ap₂ heading_for c.data_wires-n.ensures.value c.ancillas-m.ensures) at c.put_heading-i.ensures in
    rw (← text_parts c.args.circuit.now) (more head-wrote body-wrote)
