use Rattle.std.proofs.Common.{◌∙◌}
use Rattle.revlib_reader.proofs.keywords.Beginnings.{begins}
use Rattle.revlib_reader.proofs.keywords.starts.Goals as goal

pub returns : goal.returns
returns c = c.starts_with.ensures.value ∙ begins c.args.word.now c.args.s.now
