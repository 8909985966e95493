use Rattle.std.proofs.Common.{subst, sym}
use Rattle.revlib_reader.specs.heading.Heading.{HeadingRead}
use Rattle.revlib_reader.proofs.heading.Headings.{heading_told}
use Rattle.revlib_reader.proofs.heading.Heading.read.Goals as goal

pub returns : goal.returns
returns c = subst (HeadingRead c.args.s.now) (sym c.ok.ensures.value) (heading_told c.args.s.now _ c.read_heading.ensures)
