-- The list of choices without those below a skipped gate, and the incumbent after this list was tried. The test `skip` sees the list so far
-- and the next gate.
use Rattle.std.specs.Prelude.{◌≡◌, Bool, true, ℕ, zero, suc, ◌≤◌, length, take}
use mathlib.Core.List.{List, [], ◌∷◌, ◌++◌, flat_map, Memᴰ}
use Rattle.std.proofs.Math.Option.{Option}
use Rattle.logic.specs.Rules.{pick}
use Rattle.logic.specs.Lists.{Among}
use Rattle.problem.specs.order.Choices.{Choice, before, improve, under}
use Rattle.problem.specs.Problems.{Problem, here, within}

-- `under`, with nothing below a gate that is skipped
unfoldable pub pruned : (List ℕ → ℕ → Bool) → (List ℕ → List Choice) → List ℕ → List ℕ → ℕ → List Choice
pruned skip here gates l zero = here l
pruned skip here gates l (suc k) = here l ++ flat_map (λ (g : ℕ). pick (skip l g) [] (pruned skip here gates (l ++ (g ∷ [])) k)) gates

-- the part of `pruned` in which the gate after l is g, and at most k gates follow it
abbrev pub branch : (List ℕ → ℕ → Bool) → (List ℕ → List Choice) → List ℕ → List ℕ → ℕ → ℕ → List Choice
branch skip here gates l k g = pick (skip l g) [] (pruned skip here gates (l ++ (g ∷ [])) k)

-- the part of `pruned` in which the gate after l is one of the first i
abbrev pub branches : (List ℕ → ℕ → Bool) → (List ℕ → List Choice) → List ℕ → List ℕ → ℕ → ℕ → List Choice
branches skip here gates l k i = flat_map (branch skip here gates l k) (take i gates)

-- every good choice below a skipped gate is beaten: a good choice of the full list comes before it
abbrev pub Beaten : (List ℕ → ℕ → Bool) → (List ℕ → List Choice) → List ℕ → ℕ → (Choice → Bool) → Type 0
Beaten skip here gates k good =
    (l e : List ℕ) (g : ℕ) (c : Choice) → skip l g ≡ true → Among gates (l ++ (g ∷ e)) → length (l ++ (g ∷ e)) ≤ k
    → Memᴰ c (here (l ++ (g ∷ e))) → good c ≡ true
    → (a : Choice) × (Memᴰ a (under here gates [] k) × ((good a ≡ true) × (before a c ≡ true)))

-- the incumbent after the pruned list below l was tried
unfoldable pub tried_under : (List ℕ → ℕ → Bool) → Problem → ℕ → List ℕ → ℕ → Option Choice → Option Choice
tried_under skip P limit l k held = improve (within P limit) held (pruned skip (here P) P.gates l k)

-- the incumbent after the part of it below gate g was tried
unfoldable pub tried_by : (List ℕ → ℕ → Bool) → Problem → ℕ → List ℕ → ℕ → ℕ → Option Choice → Option Choice
tried_by skip P limit l k g held = improve (within P limit) held (branch skip (here P) P.gates l k g)
