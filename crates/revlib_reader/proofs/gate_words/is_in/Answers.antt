use Rattle.std.proofs.Common.{◌∙◌}
use Rattle.revlib_reader.proofs.gate_words.Letters.{any_is_in}
use Rattle.revlib_reader.proofs.gate_words.is_in.Goals as goal

pub returns : goal.returns
returns c = c.contains.ensures.value ∙ any_is_in c.args.x c.args.list.now
