-- Lists: a test of every element, a filter, a range of numbers, a sum, and a state carried through from either end.
use Rattle.std.specs.Prelude.{Bool, true, ℕ, zero, suc, ◌+◌}
use mathlib.Core.List.{List, [], ◌∷◌, Memᴰ}
use Rattle.logic.specs.Rules.{both, pick}

-- f holds for every element
unfoldable pub all_of : {A : Type 0} → (A → Bool) → List A → Bool
all_of f [] = true
all_of f (x ∷ xs) = both (f x) (all_of f xs)

-- the elements for which f holds, in their order
abbrev pub keep_only : {A : Type 0} → (A → Bool) → List A → List A
keep_only f [] = []
keep_only f (x ∷ xs) = pick (f x) (x ∷ keep_only f xs) (keep_only f xs)

-- i, i + 1, and so on: n numbers
abbrev pub numbers_from : ℕ → ℕ → List ℕ
numbers_from i zero = []
numbers_from i (suc n) = i ∷ numbers_from (suc i) n

-- the sum of f over the list
unfoldable pub total : {A : Type 0} → (A → ℕ) → List A → ℕ
total f [] = 0
total f (x ∷ xs) = f x + total f xs

-- the state after one step for each element, from the first to the last
unfoldable pub along : {A S : Type 0} → (A → S → S) → List A → S → S
along f [] s = s
along f (x ∷ xs) s = along f xs (f x s)

-- the state after one step for each element, from the last to the first
unfoldable pub back : {A S : Type 0} → (A → S → S) → List A → S → S
back f [] s = s
back f (x ∷ xs) s = f x (back f xs s)

-- every element of e is an element of l
abbrev pub Among : List ℕ → List ℕ → Type 0
Among l e = (x : ℕ) → Memᴰ x e → Memᴰ x l
