use Rattle.std.proofs.Common.{rules, tests, ◌∙◌}
use Rattle.std.proofs.lemmas.Iterator.{YieldsList-from_slice}
use Rattle.std.proofs.lemmas.Iterator.Search.{all_from_yields_List}
use Rattle.logic.proofs.Chains.{list_all_is_all_of}
use Rattle.revlib.specs.Grammar.{declared}
use Rattle.revlib_reader.proofs.gate_words.all_declared.Goals as goal

pub returns : goal.returns
returns c =
    all_from_yields_List (declared c.args.letters.now) _ _ _ c.all.ensures.ran (YieldsList-from_slice c.args.line.now cc) (λ x b q k. search (rules, tests))
    ∙ list_all_is_all_of _ _
