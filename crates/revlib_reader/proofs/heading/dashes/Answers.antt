use Rattle.revlib_reader.proofs.heading.Headings.{few_dashes}
use Rattle.revlib_reader.proofs.heading.dashes.Goals as goal

pub returns : goal.returns
returns c = few_dashes c.args.n c.requires
