use Rattle.std.proofs.Common.{rules, tests, ◌∙◌, ap, eqb, length, unwrap_or, Option, ℕ}
use Rattle.std.proofs.lemmas.Iterator.{YieldsList-from_slice}
use Rattle.std.proofs.lemmas.Iterator.Search.{position_from_yields_List}
use Rattle.revlib_reader.proofs.gate_words.Letters.{wire_found}
use Rattle.revlib_reader.proofs.gate_words.wire_of.Goals as goal

pub returns-clause-value : goal.returns-clause-value
returns-clause-value c =
    c.unwrap_or.ensures
    ∙ ap (λ (o : Option ℕ). unwrap_or o (length c.args.letters.now))
    (position_from_yields_List (λ y. eqb y c.args.x) _ _ _ c.position.ensures.ran (YieldsList-from_slice c.args.letters.now cc) (λ x b q k. search (rules, tests)))
    ∙ wire_found c.args.letters.now c.args.x
