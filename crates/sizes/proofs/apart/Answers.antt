use Rattle.std.proofs.Common.{rules, tests, ◌≡◌, ℕ, ◌<◌, List, length, get_or, true, sym, subst, ◌∙◌}
use Rattle.std.proofs.lemmas.Grind.{get_or_default_zero}
use mathlib.Core.List.{Memᴰ}
use Rattle.std.proofs.lemmas.Iterator.{YieldsList-from_slice}
use Rattle.std.proofs.lemmas.Iterator.Adapters.{serves_from_places}
use Rattle.std.proofs.lemmas.Iterator.Search.{all_from_yields_List}
use Rattle.logic.proofs.Chains.{list_all_is_all_of}
use Rattle.logic.proofs.Members.{member_at}
use Rattle.gate.specs.Gates.{lawful}
use Rattle.gate.proofs.Tables.{gate_is}
use Rattle.parity.specs.Parity.{differs}
use Rattle.sizes.specs.permutations.Sizes.{twelve}
use Rattle.sizes.specs.permutations.Inner.{neighbor_of, apart}
use Rattle.sizes.proofs.apart.Goals as goal

-- a gate of the table is lawful
made_lawful : (gates : List ℕ) (k g : ℕ) → gates ≡ twelve → k < length gates → g ≡ get_or gates k g → lawful 2 3 g ≡ true
made_lawful gates k g e h is =
    gate_is 2 3 g (subst (Memᴰ g) e (subst (λ x. Memᴰ x gates) (sym (is ∙ get_or_default_zero gates k g h)) (member_at gates k h)))

pub all-requires-clause-callable : goal.all-requires-clause-callable
all-requires-clause-callable c = serves_from_places (YieldsList-from_slice c.args.gates.now cc) (λ x q k. search (rules, tests)) (λ x k h e. let l = made_lawful c.args.gates.now k x.now c.requires h e in search (rules, l))

pub returns : goal.returns
unfolding apart
returns c =
    all_from_yields_List (λ g. differs c.args.k (get_or c.args.cells.now (neighbor_of g c.args.r) 0)) _ _ _ c.all.ensures.ran (YieldsList-from_slice c.args.gates.now cc)
    (λ x b q k. search (rules, tests))
    ∙ list_all_is_all_of _ _
