use mathlib.Core.Path.{◌≡◌, refl}
use lib.Bits.{bit_and}
use lib.ListN.{length}
use Rattle.bounds.proofs.span.Spelled.{rests_six}
use borrow.Author.Rules.{rules}
use Rattle.bounds.proofs.elimination.base.Goals as goal

pub returns : goal.returns
returns c =
    let l : length c.args.columns ≡ 5 = search rules in
    rests_six c.args.rows c.args.columns l (bit_and c.args.rows 65535) c.clear-b.result c.clear_two-c.result c.clear_three-d.result c.clear_four-e.result c.clear_five-f.result refl
    c.clear-b.ensures
    c.clear_two-c.ensures
    c.clear_three-d.ensures
    c.clear_four-e.ensures
    c.clear_five-f.ensures
