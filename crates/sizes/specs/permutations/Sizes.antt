-- The least number of gates that make each permutation of three wires: what the cells of the table of sizes hold.
use Rattle.std.specs.Prelude.{◌≡◌, Bool, false, List, [], ◌∷◌, map, ℕ, zero, suc, ◌<◌, ltb, eqb, get_or}
use Rattle.logic.specs.Rules.{either, pick, all_below}
use Rattle.gate.specs.Gates.{gates_for}
use Rattle.circuit.specs.run.Run.{forwards}
use Rattle.problem.specs.order.Choices.{lists}
use Rattle.sizes.specs.permutations.Orders.{permutations, rank_of}

-- the gates of three wires, twelve of them
abbrev pub twelve : List ℕ
twelve = gates_for 2 3

-- a list of gates takes each of the eight rows to its value: "plain placing and no ancilla"
abbrev pub Makes : List ℕ → List ℕ → Type 0
Makes v l = (x : ℕ) → x < 8 → forwards l x ≡ get_or v x 0

-- `Makes` as a test
unfoldable pub made : List ℕ → List ℕ → Bool
made v l = all_below 8 (λ (x : ℕ). eqb (forwards l x) (get_or v x 0))

-- f holds at some element
unfoldable pub some_of : {A : Type 0} → (A → Bool) → List A → Bool
some_of f [] = false
some_of f (x ∷ xs) = either (f x) (some_of f xs)

-- some list of k gates makes the permutation
unfoldable pub made_by : List ℕ → ℕ → Bool
made_by v k = some_of (made v) (lists twelve k)

-- the least number below n at which f holds, "or 255 where there is" none
unfoldable pub least_below : ℕ → (ℕ → Bool) → ℕ
least_below zero f = 255
least_below (suc n) f = pick (ltb (least_below n f) 255) (least_below n f) (pick (f n) n 255)

-- "its least gate count over lists of any length": a cell has room for counts below 255, and `never_255` in
-- proofs/permutations/Promises.antt says that 72 gates are always enough
unfoldable pub size_of : List ℕ → ℕ
size_of v = least_below 255 (made_by v)

-- the table of sizes: "The cell at a permutation's place .. holds" its least gate count
unfoldable pub sizes : List ℕ
sizes = map size_of permutations

-- the cell of a permutation
abbrev pub cell_of : List ℕ → ℕ
cell_of v = get_or sizes (rank_of v) 0
