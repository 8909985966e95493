use Rattle.std.proofs.Common.{rules, tests, arith, ◌*◌, ◌%◌, ◌^◌, ◌∙◌}
use Rattle.std.proofs.lemmas.Iterator.{YieldsList-from_range}
use Rattle.std.proofs.lemmas.Iterator.Search.{all_from_yields_List}
use Rattle.logic.proofs.Bits.{shifted_one}
use Rattle.logic.proofs.Chains.{list_all_is_all_below}
use Rattle.circuit.specs.run.Run.{forwards}
use Rattle.table.specs.Rows.{at_zero, clean}
use Rattle.table.proofs.cleaning.clean.Goals as goal

pub returns : goal.returns
unfolding clean
returns c =
    let zero = at_zero c.args.n (forwards c.args.list.now) in
    all_from_yields_List zero _ _ _ c.all.ensures.ran (YieldsList-from_range 0 (1 * 2 ^ c.args.n % 2 ^ 64) (2 ^ c.args.n) (cc) (omega (arith, shifted_one c.args.n c.requires)))
    (λ x b q k. search (rules, tests))
    ∙ list_all_is_all_below zero (2 ^ c.args.n)
