-- What `price_change` answers.
use Rattle.std.specs.Prelude.{List, ℕ, eqb, ℤ}
use Rattle.logic.specs.Rules.{pick}
use Rattle.logic.specs.Answers.{Answer, refused, answered}
use Rattle.outcomes.specs.declared.Reported.{Reported}
use Rattle.outcomes.specs.Outcomes.{reported, search_of}
use Rattle.sensitivity.specs.alike.Alike.{compare_code, cost_difference}

-- the difference of what the two searches report, or the refusal of the first that found nothing
abbrev pub change_between : Answer Reported → Answer Reported → Answer ℤ
change_between (refused code) new = refused code
change_between (answered o) (refused code) = refused code
change_between (answered o) (answered n) = answered (cost_difference o.measures.cost n.measures.cost)

-- where the two jobs may be compared, both are searched, with room for any circuit
unfoldable pub price_change : List ℕ → List ℕ → Answer ℤ
price_change old new =
    pick (eqb (compare_code old new) 0) (change_between (reported (search_of old 15)) (reported (search_of new 15)))
    (refused (compare_code old new))
