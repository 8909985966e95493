-- Which choice comes first: the order of document 01, the first good choice of a list, the list of all choices by prefix, and all gate
-- lists of one length.
use Rattle.std.specs.Prelude.{Bool, true, false, ℕ, zero, suc, ltb, take}
use mathlib.Core.List.{List, [], ◌∷◌, ◌++◌, map, flat_map}
use Rattle.std.proofs.Math.Option.{Option, none, some}
use Rattle.logic.specs.Rules.{pick}

-- one list of gates under one placing, with the list's measures: "cost", "gates", "depth", "placing byte" and "gate bytes"
pub record Choice : Type 0 where
  pub cost : ℕ
  pub gates : ℕ
  pub depth : ℕ
  pub layout : ℕ
  pub bytes : List ℕ

-- "from left to right": the first number that differs decides, and a list comes before the longer lists that begin with it
unfoldable pub lex_less : List ℕ → List ℕ → Bool
lex_less [] [] = false
lex_less [] (y ∷ ys) = true
lex_less (x ∷ xs) [] = false
lex_less (x ∷ xs) (y ∷ ys) = pick (ltb x y) true (pick (ltb y x) false (lex_less xs ys))

-- "first by cost, then gates, depth, placing byte, and gate bytes from left to right"
abbrev pub keys : Choice → List ℕ
keys a = a.cost ∷ a.gates ∷ a.depth ∷ a.layout ∷ a.bytes

-- a comes before b: "first by cost, then gates, .."
unfoldable pub before : Choice → Choice → Bool
before a b = lex_less (keys a) (keys b)

-- the new incumbent, of the old one (if any) and a: the one that comes "first"
unfoldable pub keep : Option Choice → Choice → Option Choice
keep none a = some a
keep (some b) a = pick (before a b) (some a) (some b)

-- the incumbent after a was tried; a choice that is not good changes nothing
unfoldable pub attempt : (Choice → Bool) → Option Choice → Choice → Option Choice
attempt good held a = pick (good a) (keep held a) held

-- the "first" of the incumbent and the good choices of the list
unfoldable pub improve : (Choice → Bool) → Option Choice → List Choice → Option Choice
improve good held [] = held
improve good held (a ∷ l) = improve good (attempt good held a) l

-- every choice whose list begins with l and goes on by at most k of the gates; `here` gives the choices of one list
unfoldable pub under : (List ℕ → List Choice) → List ℕ → List ℕ → ℕ → List Choice
under here gates l zero = here l
under here gates l (suc k) = here l ++ flat_map (λ (g : ℕ). under here gates (l ++ (g ∷ [])) k) gates

-- the part of `under` in which the gate after l is one of the first i, and at most k gates follow it
abbrev pub below : (List ℕ → List Choice) → List ℕ → List ℕ → ℕ → ℕ → List Choice
below here gates l k i = flat_map (λ (g : ℕ). under here gates (l ++ (g ∷ [])) k) (take i gates)

-- every list of k of the gates: all that begin with the first gate, then all that begin with the second, and so on
unfoldable pub lists : List ℕ → ℕ → List (List ℕ)
lists gates zero = [] ∷ []
lists gates (suc k) = flat_map (λ (g : ℕ). map (λ (l : List ℕ). g ∷ l) (lists gates k)) gates
