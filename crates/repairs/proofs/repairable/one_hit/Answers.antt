use mathlib.Core.Path.{ap, ◌∙◌}
use Rattle.logic.specs.Rules.{bit}
use Rattle.repairs.specs.matches.Inner.{hits_of, lack_of}
use Rattle.repairs.proofs.matches.Joined.{one_is}
use Rattle.repairs.proofs.repairable.one_hit.Goals as goal

pub returns : goal.returns
returns c cs hp =
    let one = c.lack_of.ensures ∙ (λ i. lack_of (c.others.ensures i) c.args.care c.args.want) in
    c.hits.ensures
    ∙ (λ i. bit (hits_of c.args.ps (one i) (c.lack_of-none.ensures i) (c.lack_of-none.ensures i) (c.lack_of-none.ensures i)))
    ∙ ap bit (one_is c.args.wide cs c.args.ps c.args.w c.args.care c.args.want c.requires hp)
