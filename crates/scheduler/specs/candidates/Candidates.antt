-- The candidates of a problem, in the order in which turns try them (document 02).
use Rattle.std.specs.Prelude.{Bool, ℕ, suc}
use mathlib.Core.List.{List, [], ◌∷◌, ◌++◌, flat_map}
use Rattle.logic.specs.Lists.{numbers_from}
use Rattle.problem.specs.order.Choices.{Choice, lists, lex_less}
use Rattle.problem.specs.Problems.{Problem, here}

-- the lists of one length "in order of .. gate bytes", each "with an allowed placing", rising
unfoldable pub of_length : Problem → ℕ → List Choice
of_length P k = flat_map (here P) (lists P.gates k)

-- "up to its gate limit .. in order of length, gate bytes, placing"
unfoldable pub candidates : Problem → List Choice
candidates P = flat_map (of_length P) (numbers_from 0 (suc P.most_gates))

-- the numbers by which they are ordered: "length, gate bytes, placing"
abbrev pub trying_keys : Choice → List ℕ
trying_keys c = c.gates ∷ (c.bytes ++ (c.layout ∷ []))

-- a is tried before b: it has the lesser number where these first differ
unfoldable pub tried_before : Choice → Choice → Bool
tried_before a b = lex_less (trying_keys a) (trying_keys b)
