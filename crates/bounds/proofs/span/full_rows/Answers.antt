use mathlib.Core.Path.{◌≡◌, ap, ◌∙◌}
use lib.Bits.{bit_and}
use lib.ListN.{length}
use Rattle.logic.specs.Lists.{along}
use Rattle.bounds.specs.span.Span.{full_rows}
use Rattle.logic.proofs.Members.{spelled}
use borrow.Author.Rules.{rules}
use Rattle.bounds.proofs.span.full_rows.Goals as goal

pub returns : goal.returns
unfolding full_rows along
returns c =
    let l : length c.first-care.result ≡ 4 = search rules in
    ap (λ m. along bit_and m 65535) (spelled c.first-care.result 4 l) ∙ ap (λ m. along bit_and m 65535) c.first-care.ensures
