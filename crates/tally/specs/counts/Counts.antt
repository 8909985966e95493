-- What `tally` counts: cells by the count that they hold, beside the published figures (document 02: "tallies cells by count").
use Rattle.std.specs.Prelude.{Bool, List, [], ◌∷◌, ℕ, leb, eqb, get_or}
use Rattle.logic.specs.Rules.{both, bit, all_below}
use Rattle.logic.specs.Lists.{total}

-- 1 for a cell that holds a count from `least` to `most`, and 0 for any other
unfoldable pub between : ℕ → ℕ → ℕ → ℕ
between least most cell = bit (both (leb least cell) (leb cell most))

-- how many cells hold such a count
abbrev pub how_many : ℕ → ℕ → List ℕ → ℕ
how_many least most cells = total (between least most) cells

-- how many permutations of three wires need 0 to 8 gates, as Shende, Prasad, Markov and Hayes published it (IEEE TCAD 2003)
unfoldable pub published : List ℕ
published = 1 ∷ 12 ∷ 102 ∷ 625 ∷ 2780 ∷ 8921 ∷ 17049 ∷ 10253 ∷ 577 ∷ []

-- as many cells hold k as were published
abbrev pub agrees_at : List ℕ → ℕ → Bool
agrees_at cells k = eqb (how_many k k cells) (get_or published k 0)

-- the cells agree with all nine figures
unfoldable pub agrees : List ℕ → Bool
agrees cells = all_below 9 (agrees_at cells)
